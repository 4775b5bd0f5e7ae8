use Rattle.i3c_runner.proofs.CheckRuns.{CheckedSoFar}
use Rattle.i3c_runner.proofs.check.Check.check_all.Given as goal

-- the lines before were checked
abbrev pub invariant-loop-number : goal.invariant-loop-number
invariant-loop-number g l =
    CheckedSoFar (g.R.Read.remaining l.fn.reader) (g.R.Read.remaining l.reader) (g.W.Write.contents l.initial.out) (g.W.Write.contents l.out) l.lines l.initial.self.names l.self.names l.initial.self.told l.self.told l.number
