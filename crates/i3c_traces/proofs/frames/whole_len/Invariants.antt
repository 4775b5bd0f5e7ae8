use Rattle.std.proofs.Common.{◌≡◌, ◌+◌, length}
use Rattle.i3c_frame.specs.Frames.{whole_from}
use Rattle.i3c_traces.proofs.frames.whole_len.Given as goal

abbrev pub invariant-loop-rest : goal.invariant-loop-rest
invariant-loop-rest l = record {
  same : whole_from l.whole l.count l.rest ≡ whole_from 0 0 l.fn.symbols;
  counted : l.count + length l.rest ≡ length l.fn.symbols;
}

abbrev pub decreases-loop-rest : goal.decreases-loop-rest
decreases-loop-rest l = length l.rest
