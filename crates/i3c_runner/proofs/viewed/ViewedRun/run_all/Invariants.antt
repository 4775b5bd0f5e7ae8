use Rattle.i3c_runner.specs.ScriptSteps.{progress}
use Rattle.i3c_runner.proofs.ViewRuns.{ViewedSoFar}
use Rattle.i3c_runner.proofs.viewed.ViewedRun.run_all.Given as goal

-- the lines before were run and shown
abbrev pub invariant-loop : goal.invariant-loop
invariant-loop g l = ViewedSoFar g.V.Viewer.view_gives (g.R.Read.remaining l.fn.reader) (g.R.Read.remaining l.reader) l.lines l.initial.viewer l.viewer (progress l.initial.self.script) (progress l.self.script)
