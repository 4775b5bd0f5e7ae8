use Rattle.std.proofs.Common.{length}
use Rattle.i3c_explore.specs.Notes.{IsNotedBehind, IsQuietBehind}
use Rattle.i3c_explore.specs.Owners.{own}
use Rattle.i3c_explore.specs.Parts.{opening}
use Rattle.i3c_explore.proofs.Marking.{marks_first}
use Rattle.i3c_explore.proofs.jobs.expand_job.Goals as goal

pub returns-in-Ok-clause-noted : goal.returns-in-Ok-clause-noted
returns-in-Ok-clause-noted g c =
    let tracks = c.args.tracks.now in let layer = c.args.layer.now in
    marks_first tracks (IsNotedBehind g.M.Machine.notes (own c.args.owners.now (length tracks) c.args.job.number (opening c.args.part tracks)) layer (length layer)) (IsQuietBehind g.M.Machine.quiet (own c.args.owners.now (length tracks) c.args.job.number (opening c.args.part tracks)) layer (length layer)) c.in_ok-noted.noted.items c.in-Ok.next.noted.items
    c.in_ok-noted.ensures.shape c.in_ok-noted.ensures.unmarked c.in-Ok.ensures.noted
