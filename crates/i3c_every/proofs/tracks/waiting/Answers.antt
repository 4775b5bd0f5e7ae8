use Rattle.std.proofs.Common.{Err, List, Ok, refl, subst}
use Rattle.i3c_explore.specs.declared.node.Node.{Node}
use Rattle.i3c_every.specs.Seen.{AreSeen}
use Rattle.i3c_every.proofs.Between.{fails_so, reached_so}
use Rattle.i3c_every.proofs.Waiting.{nothing_seen, seen_behind}
use Rattle.i3c_every.proofs.tracks.waiting.Goals as goal

pub returns-then-has_some-clause-told : goal.returns-then-has_some-clause-told
returns-then-has_some-clause-told g c =
    let (start, begun, sized, reached) = reached_so g.M.Machine.steps g.M.Machine.last g.M.Machine.breaks c.args.tracks.now c.args.met.now c.args.limits c.in-Ok.nodes (Ok c.in-Ok.nodes) refl c.in-Ok.ensures in
    seen_behind g.M.Machine.steps g.M.Answering.sees c.args.tracks.now c.args.met.now start c.in-Ok.nodes.items c.in_ok-steps.steps.items begun sized reached
    (subst (λ (l : List (Node g.row.M.Denot)). AreSeen g.M.Answering.sees l c.in_ok-steps.steps.items) c.deref.ensures.value c.in_ok-steps.ensures)
    (c.has_some.ensures.some c.if-has_some.true)

pub returns-clause-told : goal.returns-clause-told
returns-clause-told g c =
    let (start, begun, sized, reached) = reached_so g.M.Machine.steps g.M.Machine.last g.M.Machine.breaks c.args.tracks.now c.args.met.now c.args.limits c.in-Ok.nodes (Ok c.in-Ok.nodes) refl c.in-Ok.ensures in
    nothing_seen g.M.Machine.steps g.M.Answering.sees c.args.tracks.now c.args.met.now start c.in-Ok.nodes.items c.in_ok-steps.steps.items c.in_ok-none.none.items begun sized reached
    (subst (λ (l : List (Node g.row.M.Denot)). AreSeen g.M.Answering.sees l c.in_ok-steps.steps.items) c.deref.ensures.value c.in_ok-steps.ensures)
    (c.has_some.ensures.none c.if-has_some.false) c.in_ok-none.ensures

pub returns-in-Err-clause-failed : goal.returns-in-Err-clause-failed
returns-in-Err-clause-failed g c = fails_so g.M.Machine.steps g.M.Machine.last g.M.Machine.breaks c.args.tracks.now c.args.met.now c.args.limits c.in-Err.stop (Err c.in-Err.stop) refl c.in-Err.ensures
