-- One bit more, until none is left.
use Rattle.std.proofs.Common.{ap, arith, slice_index, slice_set, subst}
use Rattle.std.specs.Int.RustNames.{bit_or, bit_xor}
use Rattle.i3c_wires.proofs.KeptColumns.{Flipping, flipping_less, flipping_step, turned_set}
use Rattle.i3c_wires.proofs.bit_columns.BitColumns.set.Goals as goal

pub loop-rest-smaller : goal.loop-rest-smaller
loop-rest-smaller c = flipping_less c.loop-rest.rest c.loop-rest-test.true (omega arith)

pub loop-rest-preserved : goal.loop-rest-preserved
loop-rest-preserved c = record {
  numbers = c.loop-rest.invariant.numbers;
  any = c.loop-rest.invariant.any;
  flipping = flipping_step c.args.self.now.ones c.loop-rest.self.ones (bit_xor (slice_index c.args.self.now.numbers c.index-index.result) c.args.number) c.loop-rest.rest c.index-index.result
      (omega arith) (omega arith) c.loop-rest-test.true (omega arith) c.loop-rest.invariant.flipping;
}

pub returns-clause-turned : goal.returns-clause-turned
returns-clause-turned c was =
    let h : Flipping c.args.self.now.ones c.loop-rest.self.ones (bit_xor (slice_index c.args.self.now.numbers c.index-index.result) c.args.number) 0 c.index-index.result =
    subst (λ rest. Flipping c.args.self.now.ones c.loop-rest.self.ones (bit_xor (slice_index c.args.self.now.numbers c.index-index.result) c.args.number) rest c.index-index.result) c.loop-rest-test.false c.loop-rest.invariant.flipping in
    turned_set c.args.self.now _ c.index-index.result c.args.number (omega arith) (omega arith) h
    (ap (λ ks. slice_set ks c.index-index.result c.args.number) c.loop-rest.invariant.numbers) (ap (λ any. bit_or any c.args.number) c.loop-rest.invariant.any) was
