use Rattle.std.proofs.Common.{◌≡◌, length}
use Rattle.i3c_wave.specs.CaptureTexts.{bytes_read, input, letters_in}
use Rattle.i3c_wave.specs.Found.{found_in}
use Rattle.i3c_wave.proofs.capture_run.take_bytes.Given as goal

-- the bytes read so far lead with the rest to the result of all bytes
abbrev pub invariant-loop-count : goal.invariant-loop-count
invariant-loop-count l = record {
  count : l.count ≡ letters_in l.rest;
  read : bytes_read l.fn.scl l.fn.sda (input l.initial.reached l.initial.word (found_in l.initial.captured)) l.fn.bytes ≡ bytes_read l.fn.scl l.fn.sda (input l.reached l.word (found_in l.captured)) l.rest;
}

abbrev pub decreases-loop-count : goal.decreases-loop-count
decreases-loop-count l = length l.rest
