-- What may be put into a table, and what a reset leaves in it.
use Rattle.std.specs.Prelude.{◌≡◌, ◌⊎◌, ℕ, ◌==◌, false, List, Option, Some, None, option_map, slice_set, if◌then◌else◌}
use Rattle.i3c_base.specs.declared.identity.Identity.{Identity}
use Rattle.i3c_base.specs.Covered.{Table}
use Rattle.i3c_base.specs.Places.{changed}
use Rattle.i3c_base.specs.State.{Entry, IsKeptIn, IsPickableIn, unkept}
use Rattle.i3c_table.specs.declared.row.Row.{Row}
use Rattle.i3c_table.specs.Rows.{entry_of_row}

-- the row's address is the one that the table keeps for the row's identity
abbrev pub IsKeptRow : Table → Row → Type 0
IsKeptRow table row = (i : Identity) × (row.identity ≡ Some i) × IsKeptIn table.given i row.address

-- a row may be put at a pickable address, and at the address that is kept for its identity
abbrev pub MayPut : Table → Row → Type 0
MayPut table row = IsPickableIn table.given table.legacy table.declared row.address ⊎ IsKeptRow table row

-- the table with the row's entry at its address; its list is out of date
abbrev pub with_row : Row → Table → Table
with_row row table = record table { given = slice_set table.given row.address (Some (entry_of_row row)); listed = false }

-- the entry at one address alone, kept for no identity
abbrev pub only_at : ℕ → List (Option Entry) → List (Option Entry)
only_at own given = changed (λ a place. if a == own then option_map unkept place else None) given

-- the table after a reset, in which the controller's own address alone stays; its list is out of date
abbrev pub cleared : ℕ → Table → Table
cleared own table = record table { given = only_at own table.given; listed = false }
