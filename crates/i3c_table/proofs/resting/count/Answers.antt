-- Each address is counted as it leaves those that are left.
use Rattle.std.proofs.Common.{arith, count_by}
use Rattle.std.specs.List.{range_with_len}
use Rattle.i3c_base.specs.Sets.{is_in}
use Rattle.i3c_table.proofs.AtRest.{count_few, count_fits, count_less, count_none}
use Rattle.i3c_table.proofs.resting.count.Goals as goal

pub overflow_add-count : goal.overflow_add-count
overflow_add-count c =
    let few = count_fits c.loop-address.left.0 c.in-Some.address c.loop-address.count _ c.loop-address.invariant (count_few c.args.set.0) in omega (arith, few)

pub loop-address-preserved : goal.loop-address-preserved
loop-address-preserved c =
    count_less c.loop-address.left.0 c.without-left.result.0 c.in-Some.address c.loop-address.count (count_by (is_in c.args.set.0) (range_with_len 0 128)) c.loop-address.invariant c.in-Some.ensures.0 (omega arith) c.without-left.ensures.not_in_it
    c.without-left.ensures.others

pub returns : goal.returns
returns c = count_none c.loop-address.left.0 c.loop-address.count (count_by (is_in c.args.set.0) (range_with_len 0 128)) c.loop-address.invariant c.in_default.ensures
