use Rattle.i3c_base.specs.Cutting.{lost_by}
use Rattle.i3c_base.specs.Serve.{IsAnd}
use Rattle.i3c_model.specs.Meaning.{DrivesToldLeft}
use Rattle.i3c_model.proofs.Together.{Below}
use Rattle.i3c_model.proofs.plain.Plain.byte_together.Given as goal

-- the AND of the bytes that the slots so far tell
abbrev pub invariant-loop-index : goal.invariant-loop-index
invariant-loop-index l = IsAnd l.both (Below (DrivesToldLeft l.self l.what l.at (lost_by l.cuts l.last) l.k) l.index)
