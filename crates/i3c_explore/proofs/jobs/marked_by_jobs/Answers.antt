use Rattle.std.proofs.Common.{◌≡◌, ◌≤◌, ℕ, arith, length, refl, subst}
use Rattle.std.proofs.lemmas.Option.{slice_get_read}
use Rattle.i3c_explore.specs.Jobs.{IsMarkedByJobs}
use Rattle.i3c_explore.specs.Notes.{Adds}
use Rattle.i3c_explore.proofs.JobMarks.{jobs_marked_next, jobs_marked_none}
use Rattle.i3c_explore.proofs.Marking.{marks_first}
use Rattle.i3c_explore.proofs.jobs.marked_by_jobs.Goals as goal

at_end : (a b : ℕ) → a ≤ b → b ≤ a → a ≡ b
at_end a b ab ba = omega arith

pub loop-job-init : goal.loop-job-init
loop-job-init g c = jobs_marked_none c.args.layers.now c.in_ok-noted.noted.items

pub loop-job-preserved : goal.loop-job-preserved
loop-job-preserved g c =
    let layers = c.args.layers.now in let at = c.loop-job.job in
    jobs_marked_next layers at c.index-layers-job.result c.in_ok-noted.noted.items c.loop-job.noted.items c.add_job.new.noted.items
    (slice_get_read layers (length layers) at c.index-layers-job.result refl c.loop-job-test.true c.index-layers-job.is) c.loop-job.invariant c.add_job.ensures

pub returns : goal.returns
returns g c =
    let layers = c.args.layers.now in
    let all = at_end c.loop-job.job (length layers) c.loop-job.auto.job-end c.loop-job-test.false in
    marks_first c.args.tracks.now (IsMarkedByJobs layers (length layers)) (λ t k. IsMarkedByJobs layers (length layers) t k → ⊥) c.in_ok-noted.noted.items c.loop-job.noted.items c.in_ok-noted.ensures.shape c.in_ok-noted.ensures.unmarked
    (subst (λ (k : ℕ). Adds (IsMarkedByJobs layers k) c.in_ok-noted.noted.items c.loop-job.noted.items) all c.loop-job.invariant)
