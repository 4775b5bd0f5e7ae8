use Rattle.std.proofs.Common.{◌∙◌, ap, subst}
use Rattle.i3c_streams.specs.declared.faults.ScriptFault.{ScriptFault}
use Rattle.i3c_runner.specs.ScriptSteps.{progress}
use Rattle.i3c_runner.specs.Watched.{WatchedEnds, WatchedWhole, counts_of}
use Rattle.i3c_runner.proofs.WatchRuns.{none_ran}
use Rattle.i3c_runner.proofs.watched.run_watched.Goals as goal

pub returns-in_default-clause-lines : goal.returns-in_default-clause-lines
returns-in_default-clause-lines g c =
    let from = progress c.new-run.result.script in
    (from, c.new-run.ensures.begun, c.new-run.ensures.refused, none_ran g.T.Witness.hears c.args.watching (g.R.Read.remaining c.args.reader.now) c.args.witness.now (g.W.Write.contents c.args.writer.now) from ScriptFault.Memory)

pub returns-in-Ok-outcome-clause-lines : goal.returns-in-Ok-outcome-clause-lines
returns-in-Ok-outcome-clause-lines g c =
    let from = progress c.new-run.result.script in
    let to = progress c.run_all-outcome.new.self.script in
    let known = g.R.Read.remaining c.args.reader.now in
    let old = g.W.Write.contents c.args.writer.now in
    let new = g.W.Write.contents c.run_all-outcome.new.out in
    let before = c.args.witness.now in
    let after = c.run_all-outcome.new.witness in
    let counts = c.retire-tally.ensures ∙ ap (λ w. counts_of w to) (c.run_all-outcome.ensures.watching ∙ c.new-run.ensures.watching) in
    let whole = subst (λ w. WatchedWhole g.T.Witness.hears w known old new before after from to) c.new-run.ensures.watching c.in-Ok-outcome.ensures.runs in
    (from, c.new-run.ensures.begun, c.new-run.ensures.refused, (to, counts, whole))

pub returns-clause-lines : goal.returns-clause-lines
returns-clause-lines g c =
    let from = progress c.new-run.result.script in
    let known = g.R.Read.remaining c.args.reader.now in
    let old = g.W.Write.contents c.args.writer.now in
    let new = g.W.Write.contents c.run_all-outcome.new.out in
    let before = c.args.witness.now in
    let after = c.run_all-outcome.new.witness in
    (from, c.new-run.ensures.begun, c.new-run.ensures.refused, subst (λ w. WatchedEnds g.T.Witness.hears w known old new before after from c.in-Err.fault) c.new-run.ensures.watching c.in-Err.ensures.runs)
