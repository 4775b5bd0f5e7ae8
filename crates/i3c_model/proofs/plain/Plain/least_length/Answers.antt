use Rattle.std.proofs.Common.{arith}
use Rattle.i3c_model.proofs.Lengths.{least_all, least_start}
use Rattle.i3c_model.proofs.plain.Plain.least_length.Goals as goal

pub loop-index-init : goal.loop-index-init
loop-index-init c = least_start c.args.self.now c.args.way c.args.at

pub returns-clause-same : goal.returns-clause-same
returns-clause-same c = least_all c.args.self.now c.args.way c.args.at c.loop-index.index c.loop-index.least (omega (arith, c.loop-index-test.false, c.slots-index-end.ensures.all)) c.loop-index.invariant

pub returns-clause-few : goal.returns-clause-few
returns-clause-few c = c.loop-index.invariant.0
