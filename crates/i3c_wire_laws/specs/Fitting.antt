-- Numbers that fit their types: of a bus, of what it starts with, and of what events bring.
use Rattle.std.specs.Prelude.{◌≡◌, ⊤, ℕ, ◌<◌, ◌^◌, true, All, Some, None, slice_index_or}
use Rattle.i3c_base.specs.declared.device.LegacyTarget.{LegacyTarget}
use Rattle.i3c_base.specs.declared.device.Setup.{Setup}
use Rattle.i3c_base.specs.declared.identity.Identity.{Identity}
use Rattle.i3c_base.specs.declared.identity.Lvr.{Lvr}
use Rattle.i3c_base.specs.declared.range.TheConstants.{ADDRESSES}
use Rattle.i3c_base.specs.Numbers.{IsInRange}
use Rattle.i3c_base.specs.State.{Board, Device, Entry, State, declared_at, declared_in, device_at, entry_at, is_static, legacy_target_at}
use Rattle.i3c_step.specs.declared.events.Event.{Event}

-- the number fits a byte
abbrev pub IsByte : ℕ → Type 0
IsByte byte = byte < 2 ^ 8

-- what a table keeps of an address: a BCR and a DCR of 8 bits, and a static address of 7
pub record EntryFits (e : Entry) : Type 0 where
  pub bcr : IsByte e.bcr.0
  pub dcr : IsByte e.dcr.0
  pub fixed : (f : ℕ) → e.fixed ≡ Some f → f < ADDRESSES

-- a legacy target: a static address, an LVR of 8 bits, and registers of 8
pub record TargetFits (a : ℕ) (target : LegacyTarget) : Type 0 where
  pub static : is_static a ≡ true
  pub lvr : IsByte target.lvr.0
  pub registers : All IsByte target.registers

-- an identity that is declared at a static address
abbrev pub DeclaredFits : ℕ → Identity → Type 0
DeclaredFits a i = (is_static a ≡ true) × IsInRange i

-- the numbers of a bus
pub record Fits (st : State) : Type 0 where
  pub devices : (s : ℕ) (d : Device) → device_at st s ≡ Some d → IsInRange d.identity
  pub entries : (a : ℕ) (e : Entry) → entry_at st a ≡ Some e → EntryFits e
  pub targets : (a : ℕ) (target : LegacyTarget) → legacy_target_at st a ≡ Some target → TargetFits a target
  pub declared : (a : ℕ) (i : Identity) → declared_at st a ≡ Some i → DeclaredFits a i

-- the numbers that a bus starts with: those of the main controller's identity, and of a board whose legacy targets have static addresses
pub record StartFits (main : Setup) (board : Board) : Type 0 where
  pub identity : IsInRange main.identity
  pub targets : (a : ℕ) (lvr : Lvr) → slice_index_or board.legacy a None ≡ Some lvr → (is_static a ≡ true) × IsByte lvr.0
  pub declared : (a : ℕ) (i : Identity) → declared_in board.declared a ≡ Some i → IsInRange i

-- the numbers that an event brings to a bus
abbrev pub EventFits : Event → Type 0
EventFits (Event.Attach s setup) = IsInRange setup.identity
EventFits (Event.WriteTo a bytes policy cuts) = All IsByte bytes.items
EventFits (Event.SetLength way most to policy cuts) = IsByte most
EventFits _ = ⊤
