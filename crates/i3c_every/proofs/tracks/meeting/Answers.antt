use Rattle.std.proofs.Common.{Err, List, Ok, refl, subst}
use Rattle.i3c_explore.specs.declared.node.Node.{Node}
use Rattle.i3c_explore.specs.Reached.{AreTaken}
use Rattle.i3c_every.specs.Answered.{AreAnswered}
use Rattle.i3c_every.proofs.Between.{fails_so, reached_so, told_meeting, told_some}
use Rattle.i3c_every.proofs.tracks.meeting.Goals as goal

pub returns-clause-told : goal.returns-clause-told
returns-clause-told g c =
    let (start, begun, sized, reached) = reached_so g.M.Machine.steps g.M.Machine.last g.M.Machine.breaks c.args.tracks.now c.args.met.now c.args.limits c.in-Ok.nodes (Ok c.in-Ok.nodes) refl c.in-Ok.ensures in
    told_meeting g.M.Machine.steps (g.M.Answering.answers c.args.rules.now) c.args.tracks.now c.args.met.now start c.in-Ok.nodes.items c.args.line.now c.in_ok-steps.steps.items begun reached
    (subst (λ (l : List (Node g.row.M.Denot)). AreAnswered (g.M.Answering.answers c.args.rules.now) l c.args.line.now c.in_ok-steps.steps.items) c.deref.ensures.value c.in_ok-steps.ensures)

pub returns-clause-some : goal.returns-clause-some
returns-clause-some g c = told_some g.M.Machine.steps (g.M.Answering.answers c.args.rules.now) c.args.tracks.now c.args.met.now (AreTaken c.args.tracks.now c.args.met.now.places.items) c.args.line.now c.in_ok-steps.steps.items tt (returns-clause-told g c)

pub returns-in-Err-clause-failed : goal.returns-in-Err-clause-failed
returns-in-Err-clause-failed g c = fails_so g.M.Machine.steps g.M.Machine.last g.M.Machine.breaks c.args.tracks.now c.args.met.now c.args.limits c.in-Err.stop (Err c.in-Err.stop) refl c.in-Err.ensures
