-- A raise is what the bus answers to it, as facts hear it.
use Rattle.std.proofs.Common.{List, Option, refl}
use Rattle.i3c_lines.specs.declared.refusals.Refusal.{Refusal}
use Rattle.i3c_script.specs.declared.piece.Piece.{Piece}
use Rattle.i3c_script.specs.Obeying.{Answers}
use Rattle.i3c_script.specs.Unkept.{no_past}
use Rattle.i3c_step.specs.declared.events.Event.{Event}
use Rattle.i3c_scene.proofs.Ran.{heard_so}
use Rattle.i3c_scene.proofs.scene_bus.SceneBus.raise.Goals as goal

pub returns : goal.returns
returns c =
    let (pieces, refused, answers, came) =
    heard_so (λ (pieces : List Piece) (refused : Option Refusal). Answers no_past c.self.inside.bus (Event.Raise c.args.slot c.args.byte) pieces refused c.raise_in.new.self) c.raise_in.result c.in_ok-ended.ended c.nothing-heard.result
    c.raise_in.new.listener c.nothing-heard.ensures c.raise_in.ensures c.in_ok-ended.ensures in
    rw (← c.self.view_is) (pieces, refused, answers, came, refl)
