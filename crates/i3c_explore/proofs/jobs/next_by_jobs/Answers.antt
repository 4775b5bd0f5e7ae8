use Rattle.i3c_explore.specs.Parts.{opening}
use Rattle.i3c_explore.proofs.JobMarks.{joined_ok}
use Rattle.i3c_explore.proofs.Making.{made_again}
use Rattle.i3c_explore.proofs.jobs.next_by_jobs.Goals as goal

pub returns-in-Ok-clause-made : goal.returns-in-Ok-clause-made
returns-in-Ok-clause-made g c =
    let tracks = c.args.tracks.now in let marked = c.with_marks-next.ensures in
    made_again g.M.Machine.steps g.M.Machine.last tracks c.args.part (λ _. opening c.args.part tracks) c.args.layer.now c.args.limits c.in-Ok.made c.with_marks-next.result marked.nodes marked.limits c.in-Ok.ensures.made

pub returns-in-Ok-clause-noted : goal.returns-in-Ok-clause-noted
returns-in-Ok-clause-noted g c =
    joined_ok g.M.Machine.notes g.M.Machine.quiet c.args.part c.args.tracks.now c.args.layer.now c.in-Ok.made c.with_marks-next.result c.args.handed.noted.items c.in-Ok.ensures.noted c.with_marks-next.ensures.noted
