use Rattle.i3c_base.specs.Cutting.{lost_by}
use Rattle.i3c_model.proofs.Told.{AreTold}
use Rattle.i3c_model.proofs.plain.Plain.told_together.Given as goal

-- the first bytes are told
abbrev pub invariant-loop-k : goal.invariant-loop-k
invariant-loop-k l = AreTold l.self l.what l.at (lost_by l.cuts l.last) l.k l.bytes
