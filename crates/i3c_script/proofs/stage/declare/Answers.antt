-- The identity that was declared is heard.
use Rattle.std.proofs.Common.{rules, [], ◌∷◌}
use Rattle.i3c_script.specs.declared.piece.Piece.{Piece}
use Rattle.i3c_script.proofs.stage.declare.Goals as goal

pub returns : goal.returns
returns g c = λ names. (Piece.Declared c.args.address ∷ [], c.in_ok-hear.ensures, search rules)
