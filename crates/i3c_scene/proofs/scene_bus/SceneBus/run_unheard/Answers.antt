-- A line that nobody hears does what its command does, with the cuts of its ways.
use Rattle.std.proofs.Common.{◌≡◌, ◌∙◌, List, None, Option, Some, ap, refl, rules, subst, sym}
use Rattle.i3c_facts.specs.Hearing.{came_to, no_line}
use Rattle.i3c_lines.specs.declared.command.Command.{Command}
use Rattle.i3c_lines.specs.declared.refusals.Refusal.{Refusal}
use Rattle.i3c_script.specs.declared.piece.Deaf.{Deaf}
use Rattle.i3c_script.specs.declared.piece.Piece.{Piece}
use Rattle.i3c_scene.specs.Trying.{DoesIn, RunsIn, was_refused}
use Rattle.i3c_scene.proofs.Ran.{unheard_so}
use Rattle.i3c_scene.proofs.scene_bus.SceneBus.run_unheard.Goals as goal

pub returns-in_default : goal.returns-in_default
returns-in_default c =
    let scene = c.args.self.now in
    let none : c.args.line.now.command ≡ None = search rules in
    (no_line, subst (λ (o : Option Command). RunsIn scene o c.args.line.now.risk c.args.ways no_line scene) (sym none) (refl, refl), refl)

pub returns-in-Ok : goal.returns-in-Ok
returns-in-Ok c =
    let scene = c.args.self.now in
    let line = c.args.line.now in
    let new = c.obey_in.new.self in
    let asks : line.command ≡ Some c.in-Some.command = search rules in
    let (pieces, refused, does, same) = unheard_so (λ (deaf : Deaf) (piece : Piece). deaf) (λ (pieces : List Piece) (refused : Option Refusal). DoesIn scene c.in-Some.command line.risk c.args.ways pieces refused new)
    c.obey_in.result c.in-Ok.ended _ _ c.obey_in.ensures c.in-Ok.ensures in
    (came_to pieces refused, subst (λ (l : Option Command). RunsIn scene l line.risk c.args.ways (came_to pieces refused) new) (sym asks) (pieces, refused, does, refl), c.was_refused.ensures ∙ ap was_refused same)
