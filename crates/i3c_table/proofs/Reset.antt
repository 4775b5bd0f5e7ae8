-- A table without rows has empty places.
use Rattle.std.proofs.Common.{◌≡◌, []}
use Rattle.i3c_base.specs.State.{no_entries}
use Rattle.i3c_legacy.proofs.RowLaws.{places-nil}
use Rattle.i3c_table.specs.declared.row.Row.{Row}
use Rattle.i3c_table.specs.Rows.{entries, entry_of_row}

pub entries-nil : entries [] ≡ no_entries
unfolding no_entries
entries-nil = places-nil (λ (row : Row). row.address) entry_of_row
