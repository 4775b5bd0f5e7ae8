-- A command is obeyed with the cuts of its ways.
use Rattle.std.proofs.Common.{Bool, List, Option, subst}
use Rattle.i3c_lines.specs.declared.refusals.Refusal.{Refusal}
use Rattle.i3c_script.specs.declared.piece.Piece.{Piece}
use Rattle.i3c_script.specs.Hearing.{Hears}
use Rattle.i3c_scene.specs.Going.{Does}
use Rattle.i3c_scene.specs.Scenes.{Seen}
use Rattle.i3c_scene.specs.Trying.{cut_as}
use Rattle.i3c_scene.proofs.scene_bus.SceneBus.obey_in.Goals as goal

pub returns : goal.returns
returns g c =
    let heard = g.L.Listener.heard in
    let old = c.args.self.now in
    let command = c.args.command.now in
    let risk = c.args.risk.now in
    let new = c.obey.new.self in
    let hears = λ (s : Seen). Hears heard (λ (pieces : List Piece) (refused : Option Refusal). Does s command pieces refused new) c.args.listener.now c.obey.new.listener c.obey.result in
    subst (λ (b : Bool). hears (cut_as old b risk c.args.ways)) c.sends-sent.ensures (subst hears c.cut_as.ensures c.obey.ensures)
