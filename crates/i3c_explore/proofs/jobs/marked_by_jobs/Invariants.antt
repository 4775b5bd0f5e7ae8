use Rattle.i3c_explore.specs.Jobs.{IsMarkedByJobs}
use Rattle.i3c_explore.specs.Notes.{Adds}
use Rattle.i3c_explore.proofs.jobs.marked_by_jobs.Given as goal

-- the marks of the jobs so far are added
abbrev pub invariant-loop-job : goal.invariant-loop-job
invariant-loop-job g l = Adds (IsMarkedByJobs l.fn.layers l.job) l.initial.noted.items l.noted.items
