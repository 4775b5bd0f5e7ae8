use Rattle.std.proofs.Common.{ℕ, ◌<◌}
use Rattle.i3c_runner.specs.Reasons.{IsTwin}
use Rattle.i3c_runner.proofs.reasons.twin_of.Given as goal

-- none of the slots before has a twin
abbrev pub invariant-loop-index : goal.invariant-loop-index
invariant-loop-index l = (other : ℕ) → other < l.index → IsTwin l.stage l.slot l.identity other → ⊥
