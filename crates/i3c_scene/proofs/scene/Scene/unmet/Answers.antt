-- A line that is run in ways that stand for its own tells what it tells.
use Rattle.std.proofs.Common.{◌∙◌, ◌≡◌, ◌++◌, ℕ, List, Option, Result, Ok, Err}
use Rattle.std.specs.Prelude.{IfOk}
use Rattle.i3c_facts.specs.declared.before.Before.{Before}
use Rattle.i3c_scene.specs.declared.line.Line.{Line}
use Rattle.i3c_scene.specs.declared.ways.Ways.{Ways}
use Rattle.i3c_scene.specs.Latest.{tried_as}
use Rattle.i3c_scene.specs.Scenes.{Seen}
use Rattle.i3c_scene.specs.Trying.{RunsIn}
use Rattle.i3c_scene.specs.Unmet.{IsTold, LineTells}
use Rattle.i3c_scene.proofs.Late.{runs_as}
use Rattle.i3c_scene.proofs.scene.Scene.unmet.Goals as goal

told_of : {E : Type 0} (result : Result (Option ℕ) E) (old live new : Seen) (line : Line) (way : ℕ) (tried : Ways) (text more : List ℕ) → live ≡ old → tried ≡ tried_as old.state line.risk line.command way
    → IfOk result (λ told. (before : Before) × (said : List ℕ) × RunsIn live line.command line.risk tried before new × IsTold new before line.expectations.items told said × (more ≡ text ++ said))
    → IfOk result (λ told. (said : List ℕ) × LineTells old line way told said × (more ≡ text ++ said))
told_of (Err e) old live new line way tried text more same is h = tt
told_of (Ok told) old live new line way tried text more same is (before, said, runs, tells, put) = (said, (before, new, runs_as old live line way tried before new same is runs, tells), put)

pub returns : goal.returns
returns c = told_of c.unmet.result c.args.self.now c.deref_mut-live.result.now c.unmet.new.self c.args.line.now c.args.way c.ways_of_line-tried.result c.args.text.now c.unmet.new.text (c.deref_mut-live.ensures.value ∙ c.in_ok-woken.ensures) c.ways_of_line-tried.ensures.ways c.unmet.ensures
