use Rattle.std.proofs.Common.{inl}
use Rattle.i3c_runner.specs.ScriptSteps.{progress}
use Rattle.i3c_runner.proofs.ViewRuns.{none_viewed}
use Rattle.i3c_runner.proofs.viewed.run_viewed.Goals as goal

pub returns-in_default-clause-lines : goal.returns-in_default-clause-lines
returns-in_default-clause-lines g c =
    let from = progress c.new-run.result.script in
    (from, c.new-run.ensures.begun, c.new-run.ensures.refused, inl (none_viewed g.V.Viewer.view_gives (g.R.Read.remaining c.args.reader.now) c.args.viewer.now from))

pub returns-clause-lines : goal.returns-clause-lines
returns-clause-lines g c =
    let from = progress c.new-run.result.script in
    (from, c.new-run.ensures.begun, c.new-run.ensures.refused, c.in-Err.ensures.runs)
