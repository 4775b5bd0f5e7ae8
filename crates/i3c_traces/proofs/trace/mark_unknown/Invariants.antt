use Rattle.std.proofs.Common.{◌≡◌}
use Rattle.i3c_traces.proofs.AsciiLaws.{marked}
use Rattle.i3c_traces.proofs.trace.mark_unknown.Given as goal

abbrev pub invariant-loop-byte : goal.invariant-loop-byte
invariant-loop-byte l = l.bytes ≡ marked l.byte-index l.initial.bytes
