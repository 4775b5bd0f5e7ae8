-- A bus between two lines, and what its names stand for.
use Rattle.std.specs.Prelude.{◌≡◌, ℕ, ◌==◌, Bool, false, List, [], ◌∷◌, map, Option, None, Some, if◌then◌else◌}
use Rattle.i3c_base.specs.Cutting.{CutList}
use Rattle.i3c_base.specs.State.{State}
use Rattle.i3c_lines.specs.declared.names.Name.{Name}
use Rattle.i3c_lines.specs.declared.names.Place.{Place}
use Rattle.i3c_lines.specs.Keeping.{NamesKept}
use Rattle.i3c_lines.specs.Naming.{is_same}
use Rattle.i3c_script.specs.declared.settings.Settings.{Settings}
use Rattle.i3c_scene.specs.declared.named.Named.{Named}

-- the bus's state, the settings of its lines, the cuts that wait for the next frame, and the names that were given
pub record Seen : Type 0 where
  pub state : State
  pub settings : Settings
  pub cuts : CutList
  pub names : List Named

-- a scene with this bus, these settings, cuts and names
abbrev pub seen : State → Settings → CutList → List Named → Seen
seen state settings cuts names = record { state = state; settings = settings; cuts = cuts; names = names }

-- the place of a name, if it was given
abbrev pub place_in : List Named → Name → Option Place
place_in [] name = None
place_in (named ∷ rest) name = if is_same named.name name then Some named.place else place_in rest name

-- the device at this slot is gone from there
abbrev pub left_slot : ℕ → Place → Place
left_slot slot (Place.Slot s) = if s == slot then Place.Gone else Place.Slot s
left_slot slot (Place.Legacy address) = Place.Legacy address
left_slot slot Place.Gone = Place.Gone

abbrev pub left : ℕ → Named → Named
left slot named = record named { place = left_slot slot named.place }

-- a name stands for a place from now on
abbrev pub put : Name → Place → List Named → List Named
put name place [] = record { name = name; place = place } ∷ []
put name place (named ∷ rest) = if is_same named.name name then record named { place = place } ∷ rest else named ∷ put name place rest

-- a slot is given a name; the name that had the slot is gone
abbrev pub given : Name → ℕ → List Named → List Named
given name slot names = put name (Place.Slot slot) (map (left slot) names)

-- whether a place is this slot
abbrev pub stands_in : Place → ℕ → Bool
stands_in (Place.Slot s) slot = s == slot
stands_in (Place.Legacy address) slot = false
stands_in Place.Gone slot = false

-- the name that stands for a slot: that which was last given to it
abbrev pub name_in : List Named → ℕ → Option Name
name_in [] slot = None
name_in (named ∷ rest) slot = if stands_in named.place slot then Some named.name else name_in rest slot

-- whether a place is the legacy target at this address
abbrev pub stands_at : Place → ℕ → Bool
stands_at (Place.Legacy at) address = at == address
stands_at (Place.Slot slot) address = false
stands_at Place.Gone address = false

-- the name that stands for a legacy target's address
abbrev pub name_at : List Named → ℕ → Option Name
name_at [] address = None
name_at (named ∷ rest) address = if stands_at named.place address then Some named.name else name_at rest address

-- how the names of a scene are kept
abbrev pub known_kept : NamesKept (List Named)
known_kept = record { place = place_in; in_slot = name_in; at_address = name_at; gives = λ old new name slot. new ≡ given name slot old }
