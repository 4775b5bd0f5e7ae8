use Rattle.std.proofs.Common.{arith}
use Rattle.i3c_every.proofs.Adding.{up_all, up_first, up_next}
use Rattle.i3c_every.proofs.answered.answers_at.Goals as goal

pub loop-index-init : goal.loop-index-init
loop-index-init g c = up_first (g.M.Answering.answers c.args.rules.now) c.args.line.now c.args.nodes.now c.new-steps.result.values.items c.new-steps.ensures

pub loop-index-preserved : goal.loop-index-preserved
loop-index-preserved g c =
    up_next (g.M.Answering.answers c.args.rules.now) c.args.line.now c.args.nodes.now c.loop-index.index c.index-nodes-index.result c.loop-index.steps.values.items c.add_answers.new.steps.values.items c.loop-index-test.true c.index-nodes-index.is c.loop-index.invariant c.in_ok-add_answers.ensures

pub returns : goal.returns
returns g c = up_all (g.M.Answering.answers c.args.rules.now) c.args.line.now c.args.nodes.now c.loop-index.index c.loop-index.steps.values.items (omega (arith, c.loop-index-test.false)) c.loop-index.invariant
