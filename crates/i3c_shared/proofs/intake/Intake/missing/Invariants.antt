use Rattle.std.proofs.Common.{ℕ, ◌<◌}
use Rattle.i3c_shared.specs.Ports.{IsMissing}
use Rattle.i3c_shared.proofs.intake.Intake.missing.Given as goal

abbrev pub invariant-loop-index : goal.invariant-loop-index
invariant-loop-index l = (t : ℕ) → t < l.index → ¬ IsMissing l.self.log.rings l.ports.items t
