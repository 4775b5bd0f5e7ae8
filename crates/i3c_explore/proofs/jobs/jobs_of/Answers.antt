use Rattle.std.proofs.Common.{◌≡◌, ◌+◌, List, arith, refl, subst, sym}
use Rattle.i3c_explore.specs.declared.jobs.Job.{Job}
use Rattle.i3c_explore.specs.Jobs.{AreJobs}
use Rattle.i3c_explore.proofs.Following.{jobs_next}
use Rattle.i3c_explore.proofs.jobs.jobs_of.Goals as goal

pub loop-number-preserved : goal.loop-number-preserved
loop-number-preserved g c =
    let number = c.loop-number.number in
    subst (λ (jobs : List (Job g.row.M.Denot)). AreJobs jobs 0 (number + 1)) (sym c.in_ok-push.ensures.items) (jobs_next c.loop-number.all.items _ 0 number c.loop-number.invariant refl)

pub returns : goal.returns
returns g c =
    let all : c.loop-number.number ≡ c.args.jobs = omega arith in
    subst (λ k. AreJobs c.loop-number.all.items 0 k) all c.loop-number.invariant

pub loop-number-init : goal.loop-number-init
loop-number-init g c = subst (λ (jobs : List (Job g.row.M.Denot)). AreJobs jobs 0 0) (sym c.new-all.ensures.items) refl
