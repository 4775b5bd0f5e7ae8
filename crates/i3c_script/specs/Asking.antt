-- The slots that a line's names stand for, and where a device enters.
use Rattle.std.specs.Prelude.{ℕ, ◌<◌, ◌==◌, List, [], ◌∷◌, Option, Some, None, Result, Ok, Err, if◌then◌else◌, is_some}
use Rattle.i3c_base.specs.declared.range.TheConstants.{SLOTS}
use Rattle.i3c_base.specs.State.{State, IsPresent, device_at}
use Rattle.i3c_step.specs.declared.replies.Refusal.{Refusal as BusRefusal}
use Rattle.i3c_lines.specs.declared.names.Name.{Name}
use Rattle.i3c_lines.specs.declared.names.Place.{Place}
use Rattle.i3c_lines.specs.declared.refusals.Refusal.{Refusal}
use Rattle.i3c_lines.specs.Keeping.{NamesKept, slot_meant}
use Rattle.i3c_script.specs.Slots.{AllPresentBelow}

-- this slot, if it holds a device
abbrev pub present_in : State → Result ℕ Refusal → Result ℕ Refusal
present_in st (Ok slot) = if is_some (device_at st slot) then Ok slot else Err (Refusal.Bus BusRefusal.NoDevice)
present_in st (Err why) = Err why

-- the slot of the present device that a name means
abbrev pub slot_of_device : {N : Type 0} → NamesKept N → State → N → Name → Result ℕ Refusal
slot_of_device kept st names name = present_in st (slot_meant kept names name)

-- why a line of the controller in this slot is refused, if it is: only the active controller sends
abbrev pub acting_in : State → Result ℕ Refusal → Option Refusal
acting_in st (Ok slot) = if slot == st.active then None else Some Refusal.NotActive
acting_in st (Err why) = Some why

-- the same of the controller that a name means
abbrev pub acting_refusal : {N : Type 0} → NamesKept N → State → N → Name → Option Refusal
acting_refusal kept st names name = acting_in st (slot_of_device kept st names name)

-- a slot and those of other names, unless one is refused
abbrev pub with_others : Result ℕ Refusal → Result (List ℕ) Refusal → Result (List ℕ) Refusal
with_others (Ok slot) (Ok slots) = Ok (slot ∷ slots)
with_others (Ok slot) (Err why) = Err why
with_others (Err why) others = Err why

-- the slots of names, or why the first is refused that has none
abbrev pub slots_named : (Name → Result ℕ Refusal) → List Name → Result (List ℕ) Refusal
slots_named slot [] = Ok []
slots_named slot (name ∷ rest) = with_others (slot name) (slots_named slot rest)

-- a name at this place belongs to a present device or to a legacy target
abbrev pub IsTaken : State → Option Place → Type 0
IsTaken st None = ⊥
IsTaken st (Some (Place.Slot slot)) = IsPresent st slot
IsTaken st (Some (Place.Legacy address)) = Unit {0}
IsTaken st (Some Place.Gone) = ⊥

-- where a device whose name has this place enters: the lowest free slot, unless the name is taken or no slot is free
abbrev pub IsEntrance : State → Option Place → Result ℕ Refusal → Type 0
IsEntrance st place (Ok slot) = (¬ IsTaken st place) × (slot < SLOTS) × (¬ IsPresent st slot) × AllPresentBelow st slot
IsEntrance st place (Err Refusal.NameTaken) = IsTaken st place
IsEntrance st place (Err (Refusal.Bus BusRefusal.SlotTaken)) = (¬ IsTaken st place) × AllPresentBelow st SLOTS
IsEntrance st place (Err _) = ⊥
