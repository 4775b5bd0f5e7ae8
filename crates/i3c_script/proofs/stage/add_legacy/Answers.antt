-- The target that was declared is heard.
use Rattle.std.proofs.Common.{rules, [], ◌∷◌}
use Rattle.i3c_script.specs.declared.piece.Piece.{Piece}
use Rattle.i3c_script.proofs.stage.add_legacy.Goals as goal

pub returns : goal.returns
returns g c = (Piece.Legacy c.args.name.now c.args.address ∷ [], c.in_ok-hear.ensures, search rules)
