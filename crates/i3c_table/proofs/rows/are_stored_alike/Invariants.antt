use Rattle.std.proofs.Common.{ℕ, ◌<◌, get_or}
use Rattle.i3c_table.specs.Stored.{IsStoredAlike}
use Rattle.i3c_table.proofs.rows.are_stored_alike.Given as goal

-- the same stands at the addresses so far
abbrev pub invariant-loop-index : goal.invariant-loop-index
invariant-loop-index l = (k : ℕ) → k < l.index → IsStoredAlike l.fn.registers l.fn.numbers l.fn.others l.fn.more (get_or l.fn.addresses k 0)
