-- A line that is heard does what its command does, with the cuts of its ways.
use Rattle.std.proofs.Common.{◌≡◌, List, Option, Some, rules, subst, sym}
use Rattle.i3c_lines.specs.declared.command.Command.{Command}
use Rattle.i3c_lines.specs.declared.refusals.Refusal.{Refusal}
use Rattle.i3c_script.specs.declared.piece.Piece.{Piece}
use Rattle.i3c_scene.specs.Trying.{DoesIn, RunsIn}
use Rattle.i3c_scene.proofs.Ran.{heard_so, known}
use Rattle.i3c_scene.proofs.scene_bus.SceneBus.run.Goals as goal

pub returns : goal.returns
returns c =
    let scene = c.args.self.now in
    let line = c.args.line.now in
    let new = c.obey_in.new.self in
    let asks : line.command ≡ Some c.in-Some.command = search rules in
    let does = heard_so (λ (pieces : List Piece) (refused : Option Refusal). DoesIn scene c.in-Some.command line.risk c.args.ways pieces refused new) c.obey_in.result c.in_ok-ended.ended c.nothing-heard.result
    c.obey_in.new.listener c.nothing-heard.ensures c.obey_in.ensures c.in_ok-ended.ensures in
    subst (λ (l : Option Command). RunsIn scene l line.risk c.args.ways (known c.in_ok-ended.ended c.obey_in.new.listener) new) (sym asks) does
