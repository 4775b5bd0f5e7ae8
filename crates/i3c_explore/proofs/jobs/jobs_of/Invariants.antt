use Rattle.i3c_explore.specs.Jobs.{AreJobs}
use Rattle.i3c_explore.proofs.jobs.jobs_of.Given as goal

-- the jobs so far have the numbers before the next one's
abbrev pub invariant-loop-number : goal.invariant-loop-number
invariant-loop-number g l = AreJobs l.all.items 0 l.number
