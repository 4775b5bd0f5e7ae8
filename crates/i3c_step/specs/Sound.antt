-- What every bus keeps, whatever happens on it.
use Rattle.std.specs.Prelude.{◌≡◌, ℕ, true, List, length, Option, Some, None, is_some}
use Rattle.std.specs.List.{All}
use Rattle.i3c_base.specs.declared.range.TheConstants.{ADDRESSES}
use Rattle.i3c_base.specs.declared.device.Waiting.{Waiting}
use Rattle.i3c_base.specs.declared.identity.Identity.{Identity}
use Rattle.i3c_base.specs.Numbers.{has_byte}
use Rattle.i3c_base.specs.State.{Device, Entry, State, declared_at, declared_in, device_at, entry_at, fixed_of, is_static, legacy_target_at}

-- the entry says what the identity's device is, is kept for no other identity, and has no other's static address
pub record IsFor (declared : List (Option Identity)) (i : Identity) (e : Entry) : Type 0 where
  pub bcr : e.bcr ≡ i.bcr
  pub dcr : e.dcr ≡ i.dcr
  pub kept : (j : Identity) → e.kept ≡ Some j → j ≡ i
  pub fixed : (f : ℕ) → e.fixed ≡ Some f → declared_in declared f ≡ Some i

-- the entry's static address, if it has one, is declared
abbrev pub HasDeclared : List (Option Identity) → Entry → Type 0
HasDeclared declared e = (f : ℕ) → e.fixed ≡ Some f → (i : Identity) × (declared_in declared f ≡ Some i)

-- The table has each address in use under its device's identity, and keeps it for no other, and devices of one address have
-- one identity. The table has a place for each address, and none of those in it is a legacy target's or declared. A device's
-- static address is the one that its identity is declared at, and a legacy target is at no declared address. A static address in
-- the table is a declared one, and those may be declared
pub record Addresses (st : State) : Type 0 where
  pub used : (s a : ℕ) (d : Device) → device_at st s ≡ Some d → d.address ≡ Some a → (e : Entry) × (entry_at st a ≡ Some e) × IsFor st.declared d.identity e
  pub alike : (s t a : ℕ) (d e : Device) → device_at st s ≡ Some d → device_at st t ≡ Some e → d.address ≡ Some a → e.address ≡ Some a → d.identity ≡ e.identity
  pub free : (a : ℕ) (e : Entry) → entry_at st a ≡ Some e → legacy_target_at st a ≡ None
  pub undeclared : (a : ℕ) (e : Entry) → entry_at st a ≡ Some e → declared_at st a ≡ None
  pub placed : (s : ℕ) (d : Device) → device_at st s ≡ Some d → d.fixed ≡ fixed_of st.declared d.identity
  pub lone : (a : ℕ) (i : Identity) → declared_at st a ≡ Some i → legacy_target_at st a ≡ None
  pub static : (a : ℕ) (i : Identity) → declared_at st a ≡ Some i → is_static a ≡ true
  pub fixed : (a : ℕ) (e : Entry) → entry_at st a ≡ Some e → HasDeclared st.declared e
  pub long : length st.given ≡ ADDRESSES

-- a device's waiting interrupts have mandatory bytes exactly where its BCR says so
abbrev pub IsFitting : Device → Type 0
IsFitting d = All (λ (w : Waiting). is_some w.byte ≡ has_byte d.identity.bcr) d.waiting

-- the active controller's device is there, and has an address
abbrev pub HasActive : State → Type 0
HasActive st = (d : Device) × (a : ℕ) × (device_at st st.active ≡ Some d) × (d.address ≡ Some a)

-- a bus whose addresses are those of its table, whose waiting interrupts fit their devices, and whose active controller has
-- an address
pub record IsSound (st : State) : Type 0 where
  pub addresses : Addresses st
  pub active : HasActive st
  pub fitting : (s : ℕ) (d : Device) → device_at st s ≡ Some d → IsFitting d
