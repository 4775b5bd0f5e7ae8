-- In which slots a walk may find something.
use Rattle.std.specs.Prelude.{◌≡◌, ℕ, Some, length, ◌<◌, Bool, true, List, Option, None, is_none, slice_index, slice_index_or}
use Rattle.i3c_base.specs.declared.range.TheConstants.{SLOTS}
use Rattle.i3c_base.specs.declared.device.Waiting.{Waiting}
use Rattle.i3c_base.specs.Numbers.{IsInRange, number_of}
use Rattle.i3c_base.specs.State.{Device, in_slot}
use Rattle.i3c_wires.specs.declared.bit_columns.BitColumns.{BitColumns}
use Rattle.i3c_wires.specs.BitColumns.{AreTurned}
use Rattle.i3c_device.specs.declared.slot_set.SlotSet.{SlotSet}
use Rattle.i3c_device.specs.declared.slot_index.SlotIndex.{SlotIndex}
use Rattle.i3c_device.specs.declared.answering.Answering.{Answering}
use Rattle.i3c_device.specs.declared.answering.TheConstants.{NOWHERE}
use Rattle.i3c_device.specs.Addressing.{IsDynamicIn}
use Rattle.i3c_device.specs.Answering.{AreFound}
use Rattle.i3c_device.specs.Sets.{has}
use Rattle.i3c_device.specs.Wishing.{key_of, wishes_interrupt, wishes_join, wishes_role}

-- the set of the slots whose device passes a test
abbrev pub IsSetOf : (Device → Bool) → SlotSet → List (Option Device) → Type 0
IsSetOf test slots places = (s : ℕ) → s < SLOTS → has slots s ≡ in_slot test (slice_index_or places s None)

-- the key of the request that the device in a slot drives when it drives one
abbrev pub key_in : Option Device → ℕ
key_in None = 0
key_in (Some d) = key_of d.address d.role_wish

-- the address at which a device with these two answers: its dynamic one, or otherwise its static one
abbrev pub answer_of : Option ℕ → Option ℕ → ℕ
answer_of (Some a) fixed = a
answer_of None (Some f) = f
answer_of None None = NOWHERE

-- the address at which the device in a slot answers
abbrev pub answer_in : Option Device → ℕ
answer_in None = NOWHERE
answer_in (Some d) = answer_of d.address d.fixed

-- where the devices in these places answer, by slot and by address
abbrev pub DoAnswer : Answering → List (Option Device) → Type 0
DoAnswer kept places = AreFound kept × ((s : ℕ) → s < SLOTS → slice_index kept.addresses s ≡ answer_in (slice_index_or places s None))

-- the keys of these places, whose addresses are dynamic ones
abbrev pub AreKeys : List ℕ → List (Option Device) → Type 0
AreKeys keys places = (length keys ≡ SLOTS) × ((s : ℕ) → s < SLOTS → (slice_index keys s ≡ key_in (slice_index_or places s None)) × IsDynamicIn (slice_index_or places s None))

-- columns with the number of each device's identity, which has 64 bits; they may have any number for an empty slot
abbrev pub HaveColumns : BitColumns → List (Option Device) → Type 0
HaveColumns kept places = AreTurned kept × ((s : ℕ) (d : Device) → slice_index_or places s None ≡ Some d → (slice_index kept.numbers s ≡ number_of d.identity) × IsInRange d.identity)

-- a device whose waiting interrupts are others
abbrev pub requeued : (Device → List Waiting) → Device → Device
requeued queue d = record d { waiting = queue d }

-- the marks of these places
pub record AreMarks (marks : SlotIndex) (places : List (Option Device)) : Type 0 where
  pub present : IsSetOf (λ d. true) marks.present places
  pub joining : IsSetOf wishes_join marks.joining places
  pub asking : IsSetOf wishes_role marks.asking places
  pub interrupting : IsSetOf wishes_interrupt marks.interrupting places
  pub hearing : IsSetOf (λ d. d.hearing) marks.hearing places
  pub unaddressed : IsSetOf (λ d. is_none d.address) marks.unaddressed places
  pub keys : AreKeys marks.keys places
  pub answering : DoAnswer marks.answering places
  pub columns : HaveColumns marks.columns places
