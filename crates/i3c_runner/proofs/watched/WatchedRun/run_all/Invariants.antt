use Rattle.std.proofs.Common.{◌≡◌}
use Rattle.i3c_runner.specs.ScriptSteps.{progress}
use Rattle.i3c_runner.specs.Watched.{KnowsCuts}
use Rattle.i3c_runner.proofs.WatchRuns.{WatchedSoFar}
use Rattle.i3c_runner.proofs.watched.WatchedRun.run_all.Given as goal

-- the lines before were run, shown and told, and the cuts that wait are known
abbrev pub invariant-loop-number : goal.invariant-loop-number
invariant-loop-number g l = record {
  same : l.self.watching ≡ l.initial.self.watching;
  knows : KnowsCuts l.initial.self.watching l.self.known.cuts l.self.script.stage;
  so_far : WatchedSoFar g.T.Witness.hears l.initial.self.watching (g.R.Read.remaining l.fn.reader) (g.R.Read.remaining l.reader)
      (g.W.Write.contents l.initial.out) (g.W.Write.contents l.out) l.initial.witness l.witness l.lines (progress l.initial.self.script) (progress l.self.script) l.number;
}
