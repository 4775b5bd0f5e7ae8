use Rattle.std.proofs.Common.{◌≡◌, ◌+◌, length}
use Rattle.i3c_wave.specs.Signals.{base_from}
use Rattle.i3c_wave.proofs.signals.base_len.Given as goal

abbrev pub invariant-loop-rest : goal.invariant-loop-rest
invariant-loop-rest l = record {
  same : base_from l.base l.count l.rest ≡ base_from (length l.fn.name) 0 l.fn.name;
  counted : l.count + length l.rest ≡ length l.fn.name;
}

abbrev pub decreases-loop-rest : goal.decreases-loop-rest
decreases-loop-rest l = length l.rest
