use Rattle.std.proofs.Common.{◌≡◌, ◌++◌, [], ◌∷◌, Option, refl, subst, sym}
use Rattle.std.specs.Prelude.{MatchOption}
use Rattle.i3c_scene.specs.declared.line.Line.{Line}
use Rattle.i3c_tracks.specs.declared.course.Run.{Run}
use Rattle.i3c_tracks.specs.Courses.{IsRun}
use Rattle.i3c_tracks.proofs.course.add_turn.Goals as goal

pub returns-in_ok-push-in-Some-clause-runs : goal.returns-in_ok-push-in-Some-clause-runs
returns-in_ok-push-in-Some-clause-runs c before are =
    let run : Run = record { line = c.in-Some.line; way = c.args.turn.way; opened = c.args.opened } in
    subst (λ (o : Option Line). MatchOption o (c.push.new.self.items ≡ c.args.runs.now.items) (λ line. (one : Run) × IsRun one line c.args.turn.way c.args.opened × (c.push.new.self.items ≡ c.args.runs.now.items ++ one ∷ [])))
    (sym (c.in-Some.ensures.line before are)) (run, (refl, refl, refl), c.in_ok-push-in-Some.ensures.items)
