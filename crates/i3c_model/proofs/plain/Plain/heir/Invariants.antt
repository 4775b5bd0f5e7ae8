use Rattle.i3c_base.specs.Cutting.{lost_by}
use Rattle.i3c_model.proofs.Offering.{NoHeirBelow}
use Rattle.i3c_model.proofs.plain.Plain.heir.Given as goal

-- each willing device in the slots so far is lost
abbrev pub invariant-loop-index : goal.invariant-loop-index
invariant-loop-index l = NoHeirBelow l.self l.at (lost_by l.cuts l.last) l.index
