use Rattle.std.proofs.Common.{◌≡◌, ◌<◌, ℕ, List, Ok, length}
use Rattle.std.specs.Io.KnownBytes.{Consumes}
use Rattle.i3c_wave.specs.CaptureTexts.{bytes_read, new_input}
use Rattle.i3c_wave.specs.Found.{found_in}
use Rattle.i3c_wave.proofs.capture_run.read_chunks.Given as goal

-- what was read so far leads to this, and no read failed
abbrev pub invariant-loop : goal.invariant-loop
invariant-loop g l =
    (0 < length l.chunk) × ((read : List ℕ) × Consumes (g.R.Read.remaining l.fn.source.reader) (g.R.Read.remaining l.source.reader) read
    × (bytes_read l.fn.scl l.fn.sda (new_input l.fn.legacies) read ≡ Ok (record { reached = l.reached; word = l.word; found = found_in l.captured }))) × (l.source.has_failed ≡ l.fn.source.has_failed)
