-- What an exploration from a node says of the blocks.
use Rattle.std.proofs.Common.{List, subst, ℕ}
use Rattle.i3c_every.specs.Closing.{AreDone}
use Rattle.i3c_every.proofs.Closed.{leads_so, none_lead, told_so}
use Rattle.i3c_every.proofs.closing.close_at.Goals as goal

pub returns-then-has_none-clause-closed : goal.returns-then-has_none-clause-closed
returns-then-has_none-clause-closed g c = λ done. none_lead g.M.Machine.steps c.args.rest.now c.args.node.now.state (c.has_none.ensures.0 c.if-has_none.true)

pub returns-in-Ok-clause-closed : goal.returns-in-Ok-clause-closed
returns-in-Ok-clause-closed g c = λ done.
    leads_so g.M.Machine.steps c.args.tracks.now c.args.rest.now g.M.Machine.last g.M.Machine.breaks g.M.Machine.notes g.M.Machine.quiet c.args.limits c.in_ok-start.start c.args.node.now.state c.in-Ok.field-0 c.in_ok-start.ensures.state c.in-Ok.ensures

pub returns-clause-stopped : goal.returns-clause-stopped
returns-clause-stopped g c =
    told_so g.M.Machine.steps c.args.tracks.now c.args.rest.now g.M.Machine.last g.M.Machine.breaks g.M.Machine.notes g.M.Machine.quiet c.args.limits c.args.node.now c.in_ok-start.start c.in-Err.stop c.behind.result c.in_ok-start.ensures.state
    (subst (λ (places : List ℕ). AreDone c.args.tracks.now places) c.deref.ensures.value (c.are_done.ensures.all c.if-not-are_done.false)) c.in-Err.ensures c.behind.ensures
