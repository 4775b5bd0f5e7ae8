-- Rows, seen as the entries at their addresses.
use Rattle.std.specs.Prelude.{List, Option}
use Rattle.i3c_base.specs.State.{Entry}
use Rattle.i3c_legacy.specs.Rows.{places}
use Rattle.i3c_table.specs.declared.row.Row.{Row}

-- what a row says of its address
abbrev pub entry_of_row : Row → Entry
entry_of_row row = record { bcr = row.bcr; dcr = row.dcr; kept = row.identity; fixed = row.fixed }

-- the entries of the rows, each at its address
abbrev pub entries : List Row → List (Option Entry)
entries rows = places (λ row. row.address) entry_of_row rows
