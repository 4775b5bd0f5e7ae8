-- The table that a list gives to a controller.
use Rattle.std.specs.Prelude.{ℕ, false, List, map, take, Option, Some, None, option_map, if◌then◌else◌}
use Rattle.std.specs.List.{filter_map}
use Rattle.i3c_base.specs.declared.identity.Lvr.{Lvr}
use Rattle.i3c_base.specs.Covered.{Table}
use Rattle.i3c_base.specs.State.{is_static, is_usable, no_identities, unkept}
use Rattle.i3c_legacy.specs.declared.legacies.TheConstants.{LEGACIES}
use Rattle.i3c_legacy.specs.Rows.{places}
use Rattle.i3c_table.specs.declared.row.Row.{Row}
use Rattle.i3c_table.specs.Rows.{entries}
use Rattle.i3c_deftgts.specs.declared.entries.Entry.{Entry}
use Rattle.i3c_deftgts.specs.declared.entries.Entry.TheVariants.{Device, Legacy}

-- the row of a device at an address that may be given, kept for no identity
abbrev pub row_in : Entry → Option Row
row_in (Device address dcr bcr fixed) = if is_usable address then Some (record { address = address; bcr = bcr; dcr = dcr; identity = None; fixed = fixed }) else None
row_in (Legacy address lvr) = None

-- the legacy target of an entry, at an address where one may be declared
abbrev pub target_in : Entry → Option (ℕ × Lvr)
target_in (Device address dcr bcr fixed) = None
target_in (Legacy address lvr) = if is_static address then Some (address, lvr) else None

-- the legacy targets of a list by address, the first ones if there are too many
abbrev pub legacies_in : List Entry → List (Option Lvr)
legacies_in list = places (λ target. target.0) (λ target. target.1) (take LEGACIES (filter_map target_in list))

-- the table that a list gives, which tells of no declared identities
abbrev pub table_of : List Entry → Table
table_of list = record { given = entries (filter_map row_in list); legacy = legacies_in list; declared = no_identities; listed = false }

-- a table as its controller's list tells it: no address is kept for an identity, and none is declared
abbrev pub copy_of : Table → Table
copy_of table = record { given = map (option_map unkept) table.given; legacy = table.legacy; declared = no_identities; listed = false }
