use Rattle.std.proofs.Common.{◌≡◌, length}
use Rattle.i3c_table.proofs.Placed.{ArePlaced}
use Rattle.i3c_table.proofs.table.Table.by_address.Given as goal

-- the rows of the addresses that aren't left
abbrev pub invariant-loop-address : goal.invariant-loop-address
invariant-loop-address l = (length l.rows ≡ 128) × ArePlaced l.self.given l.left.0 l.rows

abbrev pub decreases-loop-address : goal.decreases-loop-address
decreases-loop-address l = l.left.0
