use Rattle.i3c_explore.proofs.Merging.{found_twins}
use Rattle.std.proofs.Common.{rules}
use Rattle.i3c_explore.proofs.merged.found_by_jobs.Goals as goal

pub returns-in-Ok : goal.returns-in-Ok
returns-in-Ok g c =
    found_twins c.args.nodes.now c.in_ok-found.found.items c.in-Ok.twins.items c.in-Ok.ensures
    (λ i one lt. (c.in_ok-found.ensures.each i one (let e = c.in_ok-found.ensures.len in search rules)).1.met)
