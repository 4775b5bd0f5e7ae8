-- The line that was held is put into its place.
use Rattle.std.proofs.Common.{rules, ◌≡◌, Option, Some, subst}
use Rattle.std.specs.Result.{OnOk}
use Rattle.i3c_scene.specs.declared.line.Line.{Line}
use Rattle.i3c_tracks.specs.Drafting.{Settles}
use Rattle.i3c_tracks.proofs.body.Body.settle.Goals as goal

pub returns-in-Some : goal.returns-in-Some
returns-in-Some c =
    let held : Some c.in-Some.line ≡ c.args.self.now.held = search rules in
    subst (λ (h : Option Line). OnOk c.put.result (Settles (record c.args.self.now { held = h }) c.put.new.self)) held c.put.ensures
