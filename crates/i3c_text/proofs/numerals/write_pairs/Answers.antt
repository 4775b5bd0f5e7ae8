use Rattle.std.proofs.Common.{refl}
use Rattle.i3c_text.proofs.HexTexts.{pair_put}
use Rattle.i3c_text.proofs.numerals.write_pairs.Goals as goal

pub loop-index-preserved : goal.loop-index-preserved
loop-index-preserved c =
    pair_put c.loop-index.places c.args.bytes.now c.loop-index.index _ _ _ c.loop-index.invariant.0 c.loop-index-test.true refl c.high_digit-high.ensures c.low_digit-low.ensures c.loop-index.invariant.1
