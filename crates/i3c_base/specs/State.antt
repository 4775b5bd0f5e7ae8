-- The abstract bus: the devices in their slots, the active controller's table, and what was recorded.
-- It is plain data, as which a bus in Rust can be seen; slots and addresses are places of lists, read by `device_at` and the like.
use Rattle.std.specs.Prelude.{◌≡◌, ◌≢◌, ℕ, ◌<◌, ◌≤◌, ◌⊎◌, Bool, true, false, not, ◌&&◌, ◌==◌, nat_le, List, [], Option, Some, None, map, find, replicate, option_map, option_and_then, slice_index, slice_index_or, slice_set, if◌then◌else◌}
use Rattle.std.specs.List.{range_with_len}
use Rattle.i3c_base.specs.declared.range.TheConstants.{ADDRESSES, SLOTS}
use Rattle.i3c_base.specs.declared.device.TheConstants.{REGISTERS}
use Rattle.i3c_base.specs.declared.identity.Bcr.{Bcr}
use Rattle.i3c_base.specs.declared.identity.Dcr.{Dcr}
use Rattle.i3c_base.specs.declared.identity.Identity.{Identity}
use Rattle.i3c_base.specs.declared.identity.Lvr.{Lvr}
use Rattle.i3c_base.specs.declared.device.Setup.{Setup}
use Rattle.i3c_base.specs.declared.device.LegacyTarget.{LegacyTarget}
use Rattle.i3c_base.specs.declared.device.Waiting.{Waiting}
use Rattle.i3c_base.specs.declared.requests.Record.{Record}
use Rattle.i3c_base.specs.Numbers.{KindSet, same_identity}
use Rattle.i3c_base.specs.Places.{changed}

-- a device in its slot, as the abstract bus has it
pub record Device : Type 0 where
  pub identity : Identity
  pub willing : Bool  -- it takes the controller role when it is offered
  pub fixed : Option ℕ  -- its static address
  pub address : Option ℕ  -- its dynamic address
  pub kinds : KindSet  -- the enabled kinds of events
  pub waiting : List Waiting  -- its waiting interrupts, the oldest first
  pub join_wish : Bool
  pub role_wish : Bool
  pub hearing : Bool  -- it hears the open session
  pub registers : List ℕ
  pub most_written : ℕ  -- how many bytes a private write to it may have
  pub most_read : ℕ  -- how many a private read of it has

-- what the table keeps of an address: the BCR and DCR of its holder, the identity that it is kept for, and the static address
-- declared for its holder
pub record Entry : Type 0 where
  pub bcr : Bcr
  pub dcr : Dcr
  pub kept : Option Identity
  pub fixed : Option ℕ

-- what has a static address before a bus starts: legacy targets, with their LVRs, and devices, by their identities
pub record Board : Type 0 where
  pub legacy : List (Option Lvr)
  pub declared : List (Option Identity)

-- the abstract bus
pub record State : Type 0 where
  pub devices : List (Option Device)  -- by slot
  pub raised : List ℕ  -- by slot: its accepted raises, over all its stays
  pub active : ℕ  -- the active controller's slot
  pub legacy : List (Option LegacyTarget)  -- by static address
  pub declared : List (Option Identity)  -- by static address: the identities of devices that have one
  pub given : List (Option Entry)  -- by address: the addresses that are given
  pub in_session : Bool
  pub listed : Bool  -- the list of DEFTGTS is current
  pub records : List Record

-- the population of a bus: the devices in their slots, and the slot of the active controller
pub record Population : Type 0 where
  pub devices : List (Option Device)
  pub active : ℕ

-- a bus as its callers see it: its state, and whether there is room for one more record
pub record Held : Type 0 where
  pub state : State
  pub room : Bool

-- a bus with these devices, the one in slot `active` being the active controller
abbrev pub HasDevices : State → List (Option Device) → ℕ → Type 0
HasDevices st devices active = (st.devices ≡ devices) × (st.active ≡ active)

-- these devices, the one in slot `active` being the active controller
abbrev pub with_active : List (Option Device) → ℕ → Population
with_active devices active = record { devices = devices; active = active }

-- the population of this bus
abbrev pub population : State → Population
population st = with_active st.devices st.active

-- the device in a slot of these
abbrev pub device_in : Population → ℕ → Option Device
device_in all s = slice_index_or all.devices s None

-- the device in a slot
abbrev pub device_at : State → ℕ → Option Device
device_at st s = device_in (population st) s

-- the number of a slot's accepted raises
abbrev pub raised_at : State → ℕ → ℕ
raised_at st s = slice_index st.raised s

-- the legacy target at a static address
abbrev pub legacy_target_at : State → ℕ → Option LegacyTarget
legacy_target_at st a = slice_index_or st.legacy a None

-- the identity that is declared at a static address, in a list by address
abbrev pub declared_in : List (Option Identity) → ℕ → Option Identity
declared_in declared a = slice_index_or declared a None

-- a test of an identity
abbrev pub is_identity : Identity → Option Identity → Bool
is_identity i None = false
is_identity i (Some j) = same_identity j i

-- the static address that is declared for the identity i, the least one
abbrev pub fixed_of : List (Option Identity) → Identity → Option ℕ
fixed_of declared i = find (λ a. is_identity i (declared_in declared a)) (range_with_len 0 ADDRESSES)

-- the static addresses that may be declared: 08 to 77
abbrev pub is_static : ℕ → Bool
is_static a = nat_le 0x08 a && nat_le a 0x77

-- the identity that is declared at a static address of this bus
abbrev pub declared_at : State → ℕ → Option Identity
declared_at st a = declared_in st.declared a

-- what a table keeps of an address
abbrev pub entry_in : List (Option Entry) → ℕ → Option Entry
entry_in given a = slice_index_or given a None

-- what the active controller's table keeps of an address
abbrev pub entry_at : State → ℕ → Option Entry
entry_at st a = entry_in st.given a

-- the identity that an address is kept for
abbrev pub kept_of : Option Entry → Option Identity
kept_of entry = option_and_then (λ e. e.kept) entry

-- a is the address that a table keeps for the identity i, the least one
abbrev pub IsKeptIn : List (Option Entry) → Identity → ℕ → Type 0
IsKeptIn given i a = (kept_of (entry_in given a) ≡ Some i) × ((b : ℕ) → b < a → kept_of (entry_in given b) ≢ Some i)

-- a table keeps no address for the identity i
abbrev pub IsUnknownIn : List (Option Entry) → Identity → Type 0
IsUnknownIn given i = (a : ℕ) → kept_of (entry_in given a) ≢ Some i

-- the address that a table keeps for the identity i, the least one
abbrev pub known_in : List (Option Entry) → Identity → Option ℕ
known_in given i = find (λ a. is_identity i (kept_of (entry_in given a))) (range_with_len 0 ADDRESSES)

-- a is the address kept for the identity i
abbrev pub IsKept : State → Identity → ℕ → Type 0
IsKept st i a = IsKeptIn st.given i a

-- no address is kept for the identity i
abbrev pub IsUnknown : State → Identity → Type 0
IsUnknown st i = IsUnknownIn st.given i

-- the dynamic addresses that may be given: 08 to 77 without 3E, 5E, 6E and 76
abbrev pub is_usable : ℕ → Bool
is_usable a = nat_le 0x08 a && (nat_le a 0x77 && (not (a == 0x3E) && (not (a == 0x5E) && (not (a == 0x6E) && not (a == 0x76)))))

-- the same as a fact
abbrev pub IsUsable : ℕ → Type 0
IsUsable a = (0x08 ≤ a) × (a ≤ 0x77) × (a ≢ 0x3E) × (a ≢ 0x5E) × (a ≢ 0x6E) × (a ≢ 0x76)

-- the place is empty
abbrev pub IsFree : {A : Type 0} → List (Option A) → ℕ → Type 0
IsFree places a = slice_index_or places a None ≡ None

-- usable, not in the table, no legacy target's and not declared
abbrev pub IsPickableIn : {A : Type 0} → List (Option Entry) → List (Option A) → List (Option Identity) → ℕ → Type 0
IsPickableIn given legacy declared a = IsUsable a × IsFree given a × IsFree legacy a × IsFree declared a

-- the least pickable address
abbrev pub IsPickIn : {A : Type 0} → List (Option Entry) → List (Option A) → List (Option Identity) → ℕ → Type 0
IsPickIn given legacy declared a = IsPickableIn given legacy declared a × ((b : ℕ) → b < a → ¬ IsPickableIn given legacy declared b)

-- the address may be picked on this bus
abbrev pub IsPickable : State → ℕ → Type 0
IsPickable st a = IsPickableIn st.given st.legacy st.declared a

-- the least one that may be picked
abbrev pub IsPick : State → ℕ → Type 0
IsPick st a = IsPickIn st.given st.legacy st.declared a

-- the optional address is there and is a
abbrev pub is_the : ℕ → Option ℕ → Bool
is_the a None = false
is_the a (Some b) = b == a

-- a test of the slot's device; false where there is none
abbrev pub in_slot : (Device → Bool) → Option Device → Bool
in_slot test None = false
in_slot test (Some d) = test d

-- slot s of these holds a device
abbrev pub IsPresentIn : Population → ℕ → Type 0
IsPresentIn all s = (d : Device) × (device_in all s ≡ Some d)

-- slot s holds a device
abbrev pub IsPresent : State → ℕ → Type 0
IsPresent st s = IsPresentIn (population st) s

-- the device has this address
abbrev pub has_address : ℕ → Device → Bool
has_address a d = is_the a d.address

-- slot s of these holds device d, which has the address a and isn't the active controller
abbrev pub IsTargetIn : Population → ℕ → ℕ → Device → Type 0
IsTargetIn all a s d = (device_in all s ≡ Some d) × (d.address ≡ Some a) × (s ≢ all.active)

-- slot s of this bus holds device d, which is a target with the address a
abbrev pub IsTargetAt : State → ℕ → ℕ → Device → Type 0
IsTargetAt st a s d = IsTargetIn (population st) a s d

-- a party that may answer to an address: the device in a slot, or the legacy target with a static address
pub data Party : Type 0 where
  in_slot_of : ℕ → Party
  legacy_at : ℕ → Party

-- the device answers to its dynamic address, or while it has none to its static one
abbrev pub IsReachedAt : ℕ → Device → Type 0
IsReachedAt a d = (d.address ≡ Some a) ⊎ ((d.address ≡ None) × (d.fixed ≡ Some a))

-- the party answers to the address a
abbrev pub AnswersTo : State → ℕ → Party → Type 0
AnswersTo st a (in_slot_of s) = (d : Device) × (device_at st s ≡ Some d) × IsReachedAt a d
AnswersTo st a (legacy_at b) = (b ≡ a) × ((t : LegacyTarget) × (legacy_target_at st a ≡ Some t))

-- no two answer to one address
abbrev pub HasUniqueAnswers : State → Type 0
HasUniqueAnswers st = (a : ℕ) (x y : Party) → AnswersTo st a x → AnswersTo st a y → x ≡ y

-- devices that are present together have distinct identities
abbrev pub HasDistinctIdentities : State → Type 0
HasDistinctIdentities st = (s t : ℕ) (d e : Device) → device_at st s ≡ Some d → device_at st t ≡ Some e → d.identity ≡ e.identity → s ≡ t

-- each of these devices changed by f, which is given its slot
abbrev pub each_in : (ℕ → Device → Device) → List (Option Device) → List (Option Device)
each_in f devices = changed (λ s place. option_map (f s) place) devices

-- each present device changed by f
abbrev pub each : (ℕ → Device → Device) → State → State
each f st = record st { devices = each_in f st.devices }

-- the device in slot s, if there is one, changed by f
abbrev pub change : ℕ → (Device → Device) → State → State
change s f st = record st { devices = slice_set st.devices s (option_map f (device_at st s)) }

-- an entry whose address nobody is known to have: it is kept for no identity, and has no static address
abbrev pub released : Entry → Entry
released entry = record entry { kept = None; fixed = None }

-- an entry that is kept for no identity any more
abbrev pub unkept : Entry → Entry
unkept entry = record entry { kept = None }

-- the entry has the static address f
abbrev pub has_fixed : ℕ → Option Entry → Bool
has_fixed f None = false
has_fixed f (Some entry) = is_the f entry.fixed

-- the least address of a table, except the controller's own, whose entry has the static address f
abbrev pub home_in : List (Option Entry) → ℕ → ℕ → Option ℕ
home_in given own f = find (λ a. not (a == own) && has_fixed f (entry_in given a)) (range_with_len 0 ADDRESSES)

-- the identity for which a new controller at `own` keeps the address a of a list that it read: the one declared at the
-- entry's static address, if a is the least address with that one
abbrev pub kept_again : List (Option Identity) → List (Option Entry) → ℕ → ℕ → Entry → Option Identity
kept_again declared given own a entry = option_and_then (λ f. if is_the a (home_in given own f) then declared_in declared f else None) entry.fixed

-- the table of a new controller at `own`: addresses are kept for declared identities alone
abbrev pub taken_over : List (Option Identity) → ℕ → List (Option Entry) → List (Option Entry)
taken_over declared own given = changed (λ a place. option_map (λ (e : Entry). record e { kept = kept_again declared given own a e }) place) given

-- registers as at attachment
abbrev pub cleared_registers : List ℕ
cleared_registers = replicate REGISTERS 0

-- all three kinds
abbrev pub all_kinds : KindSet
all_kinds = record { interrupt = true; role = true; join = true }

-- a device just attached, with this static address
abbrev pub attached : Option ℕ → Setup → Device
attached fixed setup = record {
  identity = setup.identity;
  willing = setup.willing;
  fixed = fixed;
  address = None;
  kinds = all_kinds;
  waiting = [];
  join_wish = false;
  role_wish = false;
  hearing = false;
  registers = cleared_registers;
  most_written = REGISTERS;
  most_read = REGISTERS;
}

-- the table's entry for an identity with these declarations, which isn't kept
abbrev pub entry_of : List (Option Identity) → Identity → Entry
entry_of declared i = record { bcr = i.bcr; dcr = i.dcr; kept = None; fixed = fixed_of declared i }

-- the table's entry for an identity, which is kept
abbrev pub kept_entry_of : List (Option Identity) → Identity → Entry
kept_entry_of declared i = record { bcr = i.bcr; dcr = i.dcr; kept = Some i; fixed = fixed_of declared i }

-- a legacy target at the start
abbrev pub legacy_target_of : Lvr → LegacyTarget
legacy_target_of lvr = record { lvr = lvr; registers = cleared_registers }

-- the legacy targets at the start, of their LVRs
abbrev pub legacy_targets_of : List (Option Lvr) → List (Option LegacyTarget)
legacy_targets_of lvrs = map (option_map legacy_target_of) lvrs

-- no legacy targets
unfoldable pub no_lvrs : List (Option Lvr)
no_lvrs = replicate ADDRESSES None

-- no declared identities
unfoldable pub no_identities : List (Option Identity)
no_identities = replicate ADDRESSES None

-- nothing has a static address
abbrev pub no_board : Board
no_board = record { legacy = no_lvrs; declared = no_identities }

-- identities are declared at static addresses, each at one, where no legacy target is
pub record IsBoard (board : Board) : Type 0 where
  pub static : (a : ℕ) (i : Identity) → declared_in board.declared a ≡ Some i → is_static a ≡ true
  pub apart : (a : ℕ) (i : Identity) → declared_in board.declared a ≡ Some i → IsFree board.legacy a
  pub once : (a b : ℕ) (i : Identity) → declared_in board.declared a ≡ Some i → declared_in board.declared b ≡ Some i → a ≡ b

-- the devices of a bus without any
unfoldable pub no_devices : List (Option Device)
no_devices = replicate SLOTS None

-- the raises of a bus at its start: none in any slot
unfoldable pub no_raises : List ℕ
no_raises = replicate SLOTS 0

-- the table of a bus in which no address is given
unfoldable pub no_entries : List (Option Entry)
no_entries = replicate ADDRESSES None

-- a bus with the main controller alone, before it has an address
abbrev pub unaddressed : Setup → Board → State
unaddressed main board = record {
  devices = slice_set no_devices 0 (Some (attached (fixed_of board.declared main.identity) main));
  raised = no_raises;
  active = 0;
  legacy = legacy_targets_of board.legacy;
  declared = board.declared;
  given = no_entries;
  in_session = false;
  listed = false;
  records = [];
}

-- the slot's device has the address, which enters the table
abbrev pub addressed : ℕ → ℕ → Identity → State → State
addressed s a i st = record (change s (λ d. record d { address = Some a }) st) { given = slice_set st.given a (Some (entry_of st.declared i)) }

-- a start: the main controller sits in slot 0 at the least pickable address
abbrev pub IsStart : Setup → Board → State → Type 0
IsStart main board st = (a : ℕ) × IsPick (unaddressed main board) a × (st ≡ addressed 0 a main.identity (unaddressed main board)) × IsBoard board
