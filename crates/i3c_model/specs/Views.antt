-- The machine's maps, seen as the abstract bus.
use Rattle.std.specs.Prelude.{◌≡◌, ℕ, ◌<◌, List, map, Option, IsSome, MatchOption}
use Rattle.std.specs.Ordering.{nat_cmp}
use Rattle.std.specs.List.{range_with_len}
use Rattle.std.specs.BTreeMap.{BTreeMap, get}
use Rattle.i3c_base.specs.declared.answers.Answer.{Answer}
use Rattle.i3c_base.specs.declared.device.LegacyTarget.{LegacyTarget}
use Rattle.i3c_base.specs.declared.identity.Identity.{Identity}
use Rattle.i3c_base.specs.declared.identity.Lvr.{Lvr}
use Rattle.i3c_base.specs.declared.range.TheConstants.{ADDRESSES, SLOTS}
use Rattle.i3c_base.specs.State.{Entry, State, legacy_targets_of}
use Rattle.i3c_model.specs.declared.plain.Plain.TheInside.{Inside}

-- what a map has at each number below n
unfoldable pub places_of : {A : Type 0} → ℕ → BTreeMap ℕ A → List (Option A)
places_of n m = map (λ k. get nat_cmp m k) (range_with_len 0 n)

-- each key is below n
abbrev pub IsKeyedBelow : {A : Type 0} → ℕ → BTreeMap ℕ A → Type 0
IsKeyedBelow n m = (k : ℕ) → IsSome (get nat_cmp m k) → k < n

-- each device is in a slot, and each legacy target, each declared identity and each entry at an address
pub record IsWithinPlaces (p : Inside) : Type 0 where
  pub slots : IsKeyedBelow SLOTS p.devices
  pub statics : IsKeyedBelow ADDRESSES p.legacy
  pub declarations : IsKeyedBelow ADDRESSES p.declared
  pub addresses : IsKeyedBelow ADDRESSES p.given

-- the abstract bus of the machine's maps
abbrev pub state_of : Inside → State
state_of p = record {
  devices = places_of SLOTS p.devices;
  raised = p.raised;
  active = p.active;
  legacy = places_of ADDRESSES p.legacy;
  declared = places_of ADDRESSES p.declared;
  given = places_of ADDRESSES p.given;
  in_session = p.in_session;
  listed = p.listed;
  records = p.records.items;
}

-- a map of the legacy targets that were declared with these LVRs
abbrev pub AreTargets : List (Option Lvr) → BTreeMap ℕ LegacyTarget → Type 0
AreTargets lvrs targets = IsKeyedBelow ADDRESSES targets × (places_of ADDRESSES targets ≡ legacy_targets_of lvrs)

-- a map of the identities that are declared at these addresses
abbrev pub AreIdentities : List (Option Identity) → BTreeMap ℕ Identity → Type 0
AreIdentities declared identities = IsKeyedBelow ADDRESSES identities × (places_of ADDRESSES identities ≡ declared)

-- a map of these entries of a table
abbrev pub IsTableOf : List (Option Entry) → BTreeMap ℕ Entry → Type 0
IsTableOf given table = IsKeyedBelow ADDRESSES table × (places_of ADDRESSES table ≡ given)

-- the table that a frame leaves if it is done
abbrev pub IsTableIf : Answer → List (Option Entry) → Option (BTreeMap ℕ Entry) → Type 0
IsTableIf answer given table = MatchOption table (¬ (answer ≡ Answer.Done)) (λ entries. (answer ≡ Answer.Done) × IsTableOf given entries)
