-- From each node at which nothing is left all leads on.
use Rattle.std.proofs.Common.{arith, sym}
use Rattle.i3c_every.proofs.Closed.{closed_each, closed_first, closed_next}
use Rattle.i3c_every.proofs.closing.close_all.Goals as goal

pub loop-index-init : goal.loop-index-init
loop-index-init g c = closed_first g.M.Machine.steps c.args.tracks.now c.args.rest.now c.args.nodes.now

pub loop-index-preserved : goal.loop-index-preserved
loop-index-preserved g c =
    closed_next g.M.Machine.steps c.args.tracks.now c.args.rest.now c.args.nodes.now c.loop-index.index c.index-nodes-index.result c.loop-index-test.true c.index-nodes-index.is c.loop-index.invariant c.in-Ok.ensures.closed

pub returns-in-Err-clause-stopped : goal.returns-in-Err-clause-stopped
returns-in-Err-clause-stopped g c = (c.index-nodes-index.result, (c.loop-index.index, c.loop-index-test.true, sym c.index-nodes-index.is), c.in-Err.ensures.stopped)

pub returns-clause-closed : goal.returns-clause-closed
returns-clause-closed g c = closed_each g.M.Machine.steps c.args.tracks.now c.args.rest.now c.args.nodes.now c.loop-index.index (omega (arith, c.loop-index-test.false)) c.loop-index.invariant
