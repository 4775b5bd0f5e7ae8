-- What the names that were given stand for.
use Rattle.std.specs.Prelude.{◌≡◌, ◌≢◌, ℕ, Bool, ◌-◌, List, ◌++◌, Option, Some, None, Result, Ok, Err, if◌then◌else◌, length, nat_eq, replicate, slice_index_or, take, MatchOption}
use Rattle.std.specs.Cmp.Lexicographic.{pointwise}
use Rattle.indexmap.specs.IndexMap.{get_by}
use Rattle.i3c_step.specs.declared.replies.Refusal.{Refusal as BusRefusal}
use Rattle.i3c_lines.specs.declared.refusals.Refusal.{Refusal}
use Rattle.i3c_lines.specs.declared.names.Name.{Name}
use Rattle.i3c_lines.specs.declared.names.Names.{Names}
use Rattle.i3c_lines.specs.declared.names.TheConstants.{NAME_LENGTH}
use Rattle.i3c_lines.specs.declared.names.Place.{Place}

-- a name's letters
abbrev pub letters : Name → List ℕ
letters name = take name.length name.bytes

-- some letters, and zeros in the places that are left
abbrev pub padded : List ℕ → List ℕ
padded letters = letters ++ replicate (NAME_LENGTH - length letters) 0

-- the name that was last given to each slot
abbrev pub slot_names : Names → List (Option Name)
slot_names names = names.slots

-- the name of the legacy target at each static address
abbrev pub legacy_names : Names → List (Option Name)
legacy_names names = names.legacies

-- whether two names have the same letters
abbrev pub is_same : Name → Name → Bool
is_same name other = pointwise nat_eq (letters name) (letters other)

-- the place that a name was last given to, or that its device is gone from
abbrev pub place_named : Names → Name → Option Place
place_named names name = get_by (λ (other : Name). is_same name other) names.places

-- the slot of the device that is meant by a name at this place
abbrev pub slot_named : Option Place → Result ℕ Refusal
slot_named None = Err Refusal.NoName
slot_named (Some (Place.Slot slot)) = Ok slot
slot_named (Some (Place.Legacy address)) = Err (Refusal.Bus BusRefusal.NoDevice)
slot_named (Some Place.Gone) = Err (Refusal.Bus BusRefusal.NoDevice)

-- each name stands for what it did
abbrev pub KeepsPlaces : Names → Names → Type 0
KeepsPlaces old new = (other : Name) → place_named new other ≡ place_named old other

-- one name is given a place, and each other stands for what it did
abbrev pub GivesAlone : Names → Names → Name → Place → Type 0
GivesAlone old new name place = (other : Name) → place_named new other ≡ (if is_same name other then Some place else place_named old other)

-- the same, but a name that had the slot loses it: its device is gone
abbrev pub Replaces : Names → Names → Name → Name → ℕ → Type 0
Replaces old new had name slot =
    (other : Name) → place_named new other ≡ (if is_same name other then Some (Place.Slot slot) else (if is_same had other then Some Place.Gone else place_named old other))

-- a slot is given a name; the slot's old name loses it, unless that one has another place by now
abbrev pub GivesSlot : Names → Names → Name → ℕ → Type 0
GivesSlot old new name slot = MatchOption (slice_index_or (slot_names old) slot None) (GivesAlone old new name (Place.Slot slot))
    (λ had. (place_named old had ≡ Some (Place.Slot slot) → Replaces old new had name slot) × (place_named old had ≢ Some (Place.Slot slot) → GivesAlone old new name (Place.Slot slot)))

-- the old name of a slot is gone, if it still has that place
abbrev pub Empties : Names → Names → ℕ → Place → Type 0
Empties old new slot place = MatchOption (slice_index_or (slot_names old) slot None) (KeepsPlaces old new)
    (λ had. (place_named old had ≡ Some place → GivesAlone old new had Place.Gone) × (place_named old had ≢ Some place → KeepsPlaces old new))
