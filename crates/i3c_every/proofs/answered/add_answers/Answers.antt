use Rattle.std.proofs.Common.{arith}
use Rattle.i3c_every.proofs.Adding.{way_all, way_first, way_next}
use Rattle.i3c_every.proofs.answered.add_answers.Goals as goal

pub loop-way-init : goal.loop-way-init
loop-way-init g c = way_first (g.M.Answering.answers c.args.rules.now) c.args.line.now c.args.node.now c.args.steps.now.values.items

pub loop-way-preserved : goal.loop-way-preserved
loop-way-preserved g c =
    let (step, own, keeps, adds) = c.in_ok-add_answer.ensures in
    way_next (g.M.Answering.answers c.args.rules.now) c.args.line.now c.args.node.now c.loop-way.way c.args.steps.now.values.items c.loop-way.steps.values.items c.add_answer.new.steps.values.items step c.loop-way.invariant own keeps adds

pub returns : goal.returns
returns g c = way_all (g.M.Answering.answers c.args.rules.now) c.args.line.now c.args.node.now c.last_answer-last.result c.loop-way.way c.args.steps.now.values.items c.loop-way.steps.values.items (omega (arith, c.loop-way-test.false)) c.loop-way.invariant c.last_answer-last.ensures.last
