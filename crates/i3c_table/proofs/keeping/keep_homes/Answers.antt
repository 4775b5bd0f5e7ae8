use Rattle.std.proofs.Common.{◌∙◌, arith}
use Rattle.i3c_table.proofs.Homes.{fits_new, keeping_more, keeping_none}
use Rattle.i3c_table.proofs.keeping.keep_homes.Goals as goal

pub loop-address-init : goal.loop-address-init
loop-address-init c = keeping_none c.args.legacies.now.declared c.args.among.0 c.new-kept.result.0 c.args.registers.now c.args.numbers.now c.args.order.now (omega arith) c.new-kept.ensures c.requires

pub keep_for-kept-requires : goal.keep_for-kept-requires
keep_for-kept-requires c = record {
  ordered = c.loop-address.invariant.ordered;
  same = fits_new c.kept_again-identity.result c.loop-address.kept.0 c.in-Some.address c.loop-address.numbers (c.loop-address.invariant.waiting c.in-Some.address c.in-Some.ensures.0);
}

pub loop-address-preserved : goal.loop-address-preserved
loop-address-preserved c =
    let put = c.keep_for-kept in
    keeping_more c.args.legacies.now.declared c.args.among.0 c.loop-address.left.0 c.without-left.result.0 c.loop-address.kept.0 put.result.0 c.in-Some.address c.args.registers.now c.loop-address.numbers put.new.numbers
    c.loop-address.order put.new.order c.loop-address.invariant c.in-Some.ensures.0 c.without-left.ensures.not_in_it c.without-left.ensures.others put.ensures.ordered (put.ensures.its ∙ c.kept_again-identity.ensures) put.ensures.others
    put.ensures.other_numbers

pub returns : goal.returns
returns c = record {
  ordered = c.loop-address.invariant.ordered;
  again = λ a. c.loop-address.invariant.done a (c.in_default.ensures a);
}

pub loop-address-smaller : goal.loop-address-smaller
loop-address-smaller c = c.without-left.ensures.less c.in-Some.ensures.0
