use Rattle.std.proofs.Common.{◌≤◌, length, take}
use Rattle.std.specs.Io.KnownBytes.{Appends}
use Rattle.i3c_streams.proofs.output.write_out.Given as goal

-- the first `written` bytes are written
abbrev pub invariant-loop : goal.invariant-loop
invariant-loop g l = (l.written ≤ length l.fn.text) × Appends (g.W.Write.contents l.initial.out) (g.W.Write.contents l.out) (take l.written l.fn.text)
