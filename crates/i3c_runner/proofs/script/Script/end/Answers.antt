use Rattle.std.proofs.Common.{[], ◌∷◌, ◌++◌, subst}
use Rattle.i3c_streams.specs.Outcomes.{GoesLast, output, written}
use Rattle.i3c_runner.specs.ScriptSteps.{Runs, progress}
use Rattle.i3c_runner.proofs.ScriptRuns.{no_feed_in_none, runs_flushed_last}
use Rattle.i3c_runner.proofs.script.Script.end.Goals as goal

pub returns-clause-runs : goal.returns-clause-runs
returns-clause-runs g c begun held one =
    let old = g.W.Write.contents c.args.out.now in
    let mid = g.W.Write.contents c.end_held_line-outcome.new.out in
    let new = g.W.Write.contents c.write_last.new.out in
    let waits = c.end_held_line-outcome.new.self.gathered in
    let outcome = c.end_held_line-outcome.result in
    let now = progress c.end_held_line-outcome.new.self in
    runs_flushed_last (begun ++ 10 ∷ []) [] (written old) (output mid waits) new (progress c.args.self.now) now outcome c.write_last.result
    (subst (λ w. Runs (begun ++ 10 ∷ []) [] (output old w) (output mid waits) (progress c.args.self.now) now outcome) c.clear.ensures (c.end_held_line-outcome.ensures.runs begun held one no_feed_in_none))
    (subst (λ w. GoesLast mid new w outcome c.write_last.result) c.as_bytes.ensures c.write_last.ensures)
