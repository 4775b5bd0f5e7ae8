use Rattle.std.proofs.Common.{◌<◌, arith, length, refl}
use Rattle.i3c_drive.proofs.Names.{same_more}
use Rattle.i3c_drive.proofs.driver.are_same.Goals as goal

pub loop-index-preserved : goal.loop-index-preserved
loop-index-preserved c =
    let names = c.args.names.now in
    let others = c.args.others.now in
    let index = c.loop-index.index in
    let inside : index < length others = omega (arith, c.loop-index-test.true, c.loop-index.invariant.1) in
    (same_more names others index c.index-names-index.result c.index-others-index.result c.loop-index-test.true inside c.loop-index.invariant.0 c.index-names-index.is c.index-others-index.is (c.if-not-is_same.ensures.0 refl), c.loop-index.invariant.1)
