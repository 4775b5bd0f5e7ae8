use Rattle.std.proofs.Common.{◌≡◌, ◌<◌, ℕ, List, [], IfOk, Result, get_or, length, refl, rules, subst, sym}
use Rattle.i3c_explore.specs.declared.jobs.Job.{Job}
use Rattle.i3c_explore.specs.declared.layer.Layer.{Layer}
use Rattle.i3c_explore.specs.declared.stop.Stop.{Stop}
use Rattle.i3c_explore.specs.Explorations.{IsMadeBy}
use Rattle.i3c_explore.specs.Jobs.{IsMarkedByJobs}
use Rattle.i3c_explore.specs.Notes.{AreMarks, IsNotedBehind, IsQuietBehind}
use Rattle.i3c_explore.specs.Owners.{own, own_below}
use Rattle.i3c_explore.specs.Parts.{opening}
use Rattle.i3c_explore.proofs.Following.{jobs_follow}
use Rattle.i3c_explore.proofs.JobMarks.{jobs_mark}
use Rattle.i3c_explore.proofs.Making.{made_few, made_follow, made_within}
use Rattle.i3c_explore.proofs.Moving.{next_moved}
use Rattle.i3c_explore.proofs.Nexts.{next_alike, next_idle}
use Rattle.i3c_explore.proofs.Owning.{own_all, own_none}
use Rattle.i3c_explore.proofs.Running.{all_few, all_run, jobs_few, jobs_run}
use Rattle.i3c_explore.proofs.jobs.by_owners.Goals as goal

pub returns-in-Ok-clause-made : goal.returns-in-Ok-clause-made
returns-in-Ok-clause-made g c =
    let steps = g.M.Machine.steps in let last = g.M.Machine.last in let tracks = c.args.tracks.now in let count = length tracks in let part = c.args.part in let lines = opening part tracks in let layer = c.args.layer.now in
    let all = c.in_ok-all.all.items in let made = c.in_ok-layers.layers.items in let owners = c.in_ok-owners.owners in let jobs = c.args.jobs in let limits = c.args.limits in let new = c.in-Ok.next.nodes.items in
    let (joined, are, moved) = c.in-Ok.ensures.joined in
    let none = own_none owners count lines in let each_owned = own_all owners count jobs lines c.in_ok-owners.ensures c.requires.some in
    let sized : length made ≡ length all = (let e = c.in_ok-layers.ensures.len in search rules) in
    let ran : (i : ℕ) → i < length all → (job : Job g.row.M.Denot) (one : Result (Layer g.row.M.Denot) Stop) → IfOk (get_or made i one) (IsMadeBy steps last tracks part (own owners count (get_or all i job).number lines) layer limits) =
    λ i lt job one.
    let (_, call) = c.in_ok-layers.ensures.each i one lt in
    subst (λ (r : Job g.row.M.Denot). IfOk (get_or made i one) (IsMadeBy steps last tracks part (own owners count r.number lines) layer limits)) (sym (call.job_is job)) call.call.met.0 in
    let followed = jobs_follow steps tracks lines owners layer all made 0 jobs [] joined sized (λ i lt job one. made_follow steps last tracks part (own owners count (get_or all i job).number lines) layer limits (get_or made i one) (ran i lt job one))
    c.in_ok-all.ensures are (next_idle steps tracks lines (own_below owners count 0 lines) layer 0 (length layer) [] refl none) in
    let run = jobs_run last lines owners count layer limits all made 0 jobs [] joined sized (λ i lt job one. made_within steps last tracks part (own owners count (get_or all i job).number lines) layer limits (get_or made i one) (ran i lt job one))
    c.in_ok-all.ensures are in
    let few = jobs_few last lines owners count layer all made 0 jobs [] joined sized (λ i lt job one. made_few steps last tracks part (own owners count (get_or all i job).number lines) layer limits (get_or made i one) (ran i lt job one))
    c.in_ok-all.ensures are in record {
      follows = next_moved steps tracks lines (λ _. lines) layer 0 (length layer) joined new moved (next_alike steps tracks lines (own_below owners count jobs lines) (λ _. lines) layer 0 (length layer) joined each_owned followed);
      within = all_run last lines owners count jobs layer limits made (record c.in-Ok.next { noted = c.in_ok-noted.noted }) none each_owned run c.in-Ok.ensures.taken c.in-Ok.ensures.narrow;
      few = all_few last lines owners count jobs layer joined new none each_owned few moved.sized;
    }

pub returns-in-Ok-clause-noted : goal.returns-in-Ok-clause-noted
returns-in-Ok-clause-noted g c =
    let tracks = c.args.tracks.now in let count = length tracks in let lines = opening c.args.part tracks in let layer = c.args.layer.now in
    let all = c.in_ok-all.all.items in let made = c.in_ok-layers.layers.items in let owners = c.in_ok-owners.owners in
    let (joined, are, _) = c.in-Ok.ensures.joined in
    let sized : length made ≡ length all = (let e = c.in_ok-layers.ensures.len in search rules) in
    let marked : (i : ℕ) → i < length all → (job : Job g.row.M.Denot) (one : Result (Layer g.row.M.Denot) Stop)
    → IfOk (get_or made i one) (λ (next : Layer g.row.M.Denot). AreMarks tracks (IsNotedBehind g.M.Machine.notes (own owners count (get_or all i job).number lines) layer (length layer)) (IsQuietBehind g.M.Machine.quiet (own owners count (get_or all i job).number lines) layer (length layer)) next.noted.items) =
    λ i lt job one.
    let (_, call) = c.in_ok-layers.ensures.each i one lt in
    subst (λ (r : Job g.row.M.Denot). IfOk (get_or made i one) (λ (next : Layer g.row.M.Denot). AreMarks tracks (IsNotedBehind g.M.Machine.notes (own owners count r.number lines) layer (length layer)) (IsQuietBehind g.M.Machine.quiet (own owners count r.number lines) layer (length layer)) next.noted.items)) (sym (call.job_is job)) call.call.met.1 in
    jobs_mark g.M.Machine.notes g.M.Machine.quiet tracks lines owners layer joined all made c.args.jobs c.in_ok-noted.noted.items sized marked c.in_ok-all.ensures c.in_ok-owners.ensures c.requires.some are
    (subst (λ (l : List (Result (Layer g.row.M.Denot) Stop)). AreMarks tracks (IsMarkedByJobs l (length l)) (λ t k. IsMarkedByJobs l (length l) t k → ⊥) c.in_ok-noted.noted.items) c.deref.ensures.value c.in_ok-noted.ensures)
