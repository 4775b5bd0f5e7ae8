use Rattle.i3c_base.specs.Cutting.{lost_by}
use Rattle.i3c_model.proofs.Transfers.{AreTogether}
use Rattle.i3c_model.proofs.plain.Plain.registers_together.Given as goal

-- the AND of the registers that the slots so far give
abbrev pub invariant-loop-index : goal.invariant-loop-index
invariant-loop-index l = AreTogether l.self l.at (lost_by l.cuts l.last) l.index l.both
