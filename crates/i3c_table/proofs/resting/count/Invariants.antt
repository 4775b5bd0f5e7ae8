use Rattle.std.proofs.Common.{◌≡◌, ◌+◌, count_by}
use Rattle.std.specs.List.{range_with_len}
use Rattle.i3c_base.specs.Sets.{is_in}
use Rattle.i3c_table.proofs.resting.count.Given as goal

-- those that were counted and those that are left
abbrev pub invariant-loop-address : goal.invariant-loop-address
invariant-loop-address l = l.count + count_by (is_in l.left.0) (range_with_len 0 128) ≡ count_by (is_in l.fn.set.0) (range_with_len 0 128)

abbrev pub decreases-loop-address : goal.decreases-loop-address
decreases-loop-address l = l.left.0
