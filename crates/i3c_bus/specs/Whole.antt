-- What each bus keeps.
use Rattle.std.specs.Prelude.{◌≡◌, ℕ, true, List}
use Rattle.i3c_base.specs.Covered.{IsCopy, IsTable, Table, lvrs}
use Rattle.i3c_base.specs.Frames.{active_has}
use Rattle.i3c_base.specs.State.{State}
use Rattle.i3c_deftgts.specs.declared.entries.Entry.{Entry}
use Rattle.i3c_deftgts.specs.Copies.{table_of}
use Rattle.i3c_deftgts.specs.Entries.{entries_of}
use Rattle.i3c_deftgts.specs.Layout.{list_bytes, Carry}
use Rattle.i3c_deftgts.specs.Reading.{ReadAs}
use Rattle.i3c_step.specs.Sound.{IsSound}
use Rattle.i3c_word.specs.declared.Word.{Word}

-- the active controller's table, as the state has it
abbrev pub the_table : State → Table
the_table st = record { given = st.given; legacy = lvrs st; declared = st.declared; listed = st.listed }

-- words that carry a list are read as it
abbrev pub IsReadBack : List Entry → Type 0
IsReadBack list = (words : List Word) → Carry (list_bytes list) words → ReadAs words list

-- these are the entries of its list, its own first; they give a copy of it, and are what its words are read as
abbrev pub IsCopyOf : State → List Entry → Type 0
IsCopyOf st list = IsCopy st (table_of list) × ((own : ℕ) × (active_has st own ≡ true) × (list ≡ entries_of (the_table st) own)) × IsReadBack list

-- a sound bus that its active controller's table covers, and while the list is current what was read of it too
pub record IsWhole (st : State) (table : Table) (list : List Entry) : Type 0 where
  pub sound : IsSound st
  pub covered : IsTable st table
  pub copied : st.listed ≡ true → IsCopyOf st list

-- a sound bus that its active controller's table covers
pub record IsCovered (st : State) (table : Table) : Type 0 where
  pub sound : IsSound st
  pub covered : IsTable st table
