use Rattle.std.proofs.Common.{◌≡◌, ◌<◌, ◌≤◌, ℕ, true, false}
use Rattle.i3c_base.specs.Sets.{is_in}
use Rattle.i3c_table.proofs.resting.span_of.Given as goal

-- the addresses that aren't left are below
abbrev pub invariant-loop-address : goal.invariant-loop-address
invariant-loop-address l = (l.span ≤ 128) × ((a : ℕ) → is_in l.fn.set.0 a ≡ true → is_in l.left.0 a ≡ false → a < l.span)

abbrev pub decreases-loop-address : goal.decreases-loop-address
decreases-loop-address l = l.left.0
