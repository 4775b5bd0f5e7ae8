-- What a witness is told of a line: why it was refused, which cuts no frame reached, and whose identity a new device has.
use Rattle.std.specs.Prelude.{⊤, ◌≡◌, ◌≢◌, ◌⊎◌, ℕ, zero, suc, ◌<◌, Bool, true, List, [], ◌∷◌, ◌++◌, codes, is_some, Option, Some, None, Result, Ok, Err, MatchResult}
use Rattle.std.specs.Fmt.{decimal}
use Rattle.i3c_base.specs.declared.identity.Identity.{Identity}
use Rattle.i3c_base.specs.declared.range.TheConstants.{SLOTS}
use Rattle.i3c_base.specs.Cutting.{CutList, IsUncut, cut_of, no_cuts}
use Rattle.i3c_base.specs.State.{State, device_at}
use Rattle.i3c_bus.specs.Readings.{identity_of}
use Rattle.i3c_legacy.specs.declared.faults.DeclareFault.{DeclareFault}
use Rattle.i3c_legacy.specs.declared.faults.LegacyFault.{LegacyFault}
use Rattle.i3c_step.specs.declared.events.Command.{Command as Frame}
use Rattle.i3c_step.specs.declared.replies.Refusal.{Refusal as BusRefusal}
use Rattle.i3c_lines.specs.declared.command.Command.{Command}
use Rattle.i3c_lines.specs.declared.names.Name.{Name}
use Rattle.i3c_lines.specs.declared.names.Names.{Names}
use Rattle.i3c_lines.specs.declared.refusals.Refusal.{Refusal}
use Rattle.i3c_lines.specs.declared.sent.Sent.{Sent}
use Rattle.i3c_lines.specs.Faults.{IsEither, IsReason}
use Rattle.i3c_lines.specs.Forms.{HasNoForm, IsCommand, IsSkipped}
use Rattle.i3c_lines.specs.Naming.{letters, place_named, slot_named}
use Rattle.i3c_lines.specs.Refusing.{refusal_text}
use Rattle.i3c_text.specs.declared.line_error.LineError.{LineError}
use Rattle.i3c_script.specs.declared.stage.Stage.{Stage}
use Rattle.i3c_script.specs.Obeying.{ScriptState}
use Rattle.i3c_runner.specs.Expecting.{name_in_slot}

-- why a legacy target isn't declared
abbrev pub legacy_reason : LegacyFault → List ℕ
legacy_reason LegacyFault.LegacyAddress = codes "the address of a legacy target is from 08 to 77"
legacy_reason LegacyFault.LegacyTwice = codes "a legacy target or a declared identity has this address"
legacy_reason LegacyFault.TooManyLegacy = codes "16 legacy targets are there"

-- why an identity isn't declared
abbrev pub declare_reason : DeclareFault → List ℕ
declare_reason DeclareFault.LegacyAddress = codes "a static address is from 08 to 77"
declare_reason DeclareFault.LegacyTwice = codes "a legacy target or a declared identity has this address"
declare_reason DeclareFault.IdentityTwice = codes "the identity is declared at another address"
declare_reason DeclareFault.TooManyDeclared = codes "16 identities are declared"

-- why the active controller has to stay
abbrev pub active_stays_reason : Command → List ℕ
active_stays_reason (Command.DropOff name) = codes "the active controller doesn't drop off"
active_stays_reason _ = codes "the active controller is cut, and doesn't lose power in a frame of its own"

-- why the active controller isn't meant
abbrev pub is_active_reason : Command → List ℕ
is_active_reason (Command.HandOver to) = codes "the address is the active controller's"
is_active_reason (Command.As name (Sent.HandOver to)) = codes "the address is the active controller's"
is_active_reason _ = codes "the device is the active controller, and asks nobody"

-- why an address is missing
abbrev pub no_address_reason : Command → List ℕ
no_address_reason Command.Round = codes "there is no address left to hand out"
no_address_reason Command.Daa = codes "there is no address left to hand out"
no_address_reason (Command.As name sent) = codes "there is no address left to hand out"
no_address_reason _ = codes "the device has no dynamic address; send 'daa' first"

-- why a device isn't capable
abbrev pub not_capable_reason : Command → List ℕ
not_capable_reason (Command.Raise name byte) = codes "by its BCR the device never interrupts"
not_capable_reason (Command.HandOver to) = codes "the table has nobody there that can be controller"
not_capable_reason (Command.As name sent) = codes "the table has nobody there that can be controller"
not_capable_reason _ = codes "by its BCR the device can't be controller"

-- why nobody answers
abbrev pub no_answer_reason : Command → List ℕ
no_answer_reason (Command.HandOver to) = codes "the offer was sent, and nobody took the role"
no_answer_reason (Command.Frame (Frame.SetStatic at to)) = codes "no identity is declared there, or no device without a dynamic address acknowledged"
no_answer_reason (Command.As name (Sent.HandOver to)) = codes "the offer was sent, and nobody took the role"
no_answer_reason (Command.As name (Sent.Frame (Frame.SetStatic at to))) = codes "no identity is declared there, or no device without a dynamic address acknowledged"
no_answer_reason _ = codes "the table has no target there, or it didn't acknowledge"

-- why the bus refuses a line of this command
abbrev pub bus_reason : Command → BusRefusal → List ℕ
bus_reason command BusRefusal.SessionOpen = codes "an assignment is open; send 'end' first"
bus_reason command BusRefusal.NoSession = codes "no assignment is open; send 'open' first"
bus_reason command BusRefusal.ActiveStays = active_stays_reason command
bus_reason command BusRefusal.SlotTaken = codes "all 64 slots are full"
bus_reason command BusRefusal.NoDevice = codes "the device is gone, or is a legacy target"
bus_reason command BusRefusal.IsActive = is_active_reason command
bus_reason command BusRefusal.NoAddress = no_address_reason command
bus_reason command BusRefusal.HasAddress = codes "the device has joined already"
bus_reason command BusRefusal.NotCapable = not_capable_reason command
bus_reason command BusRefusal.ByteMismatch = codes "the BCR wants a byte and none is given, or wants none and one is"
bus_reason command BusRefusal.Masked = codes "such requests are switched off for the device; send 'enec' first"
bus_reason command BusRefusal.Full = codes "eight interrupts wait, or the slot's count is used up"
bus_reason command BusRefusal.ListStale = codes "the list of DEFTGTS isn't current; send 'list' first"
bus_reason command (BusRefusal.NoAnswer address) = no_answer_reason command
bus_reason command BusRefusal.TooLong = codes "a write has at most as many bytes as the target takes: 16, or what setmwl has set"
bus_reason command (BusRefusal.BadAddress address) = codes "no device may be given this address, or the table has it already"

-- why a line of this command is refused
abbrev pub reason_text : Command → Refusal → List ℕ
reason_text command Refusal.BadLine = codes "the line has no form"
reason_text command Refusal.NoBus = codes "there is no bus before 'main', and only 'legacy' and 'declare' come before it"
reason_text command Refusal.BusMade = codes "the bus is made; 'main' comes once, and each 'legacy' and 'declare' before it"
reason_text command Refusal.NameTaken = codes "a device that is there or a legacy target has this name"
reason_text command Refusal.NoName = codes "no line gave this name"
reason_text command (Refusal.Legacy fault) = legacy_reason fault
reason_text command (Refusal.Declare fault) = declare_reason fault
reason_text command (Refusal.Bus why) = bus_reason command why
reason_text command Refusal.NoEnd = codes "the last T said that more bytes would come"
reason_text command Refusal.NotActive = codes "the device isn't the active controller, which alone sends frames"

-- how each line that is told begins
abbrev pub line_start : ℕ → List ℕ
line_start number = codes "line " ++ (decimal number ++ codes ": ")

-- the line that explains why a line has no form
abbrev pub formless_note : ℕ → List ℕ → List ℕ
formless_note number reason = line_start number ++ (reason ++ 10 ∷ [])

-- the line that explains another refusal
abbrev pub refusal_note : ℕ → Refusal → List ℕ → List ℕ
refusal_note number why reason = line_start number ++ (codes "refused " ++ (refusal_text why ++ (codes ": " ++ (reason ++ (codes " (docs/FORMATS.md, Refusals of lines)" ++ 10 ∷ [])))))

-- the line that tells of a cut at a bit that no frame reached
abbrev pub cut_note : ℕ → Name → ℕ → List ℕ
cut_note number name bit =
    line_start number ++ (codes "no frame reached bit " ++ (decimal bit ++ (codes ", and the cut of " ++ (letters name ++ (codes " is used up (docs/FORMATS.md, Cuts)" ++ 10 ∷ [])))))

-- the line that tells of a new device with the identity of another one
abbrev pub twin_note : ℕ → Name → Name → List ℕ
twin_note number name other =
    line_start number ++ (letters name ++ (codes " has the identity of " ++ (letters other ++ (codes ", which is there; the promises leave such devices out (docs/PROMISES.md)" ++ 10 ∷ []))))

-- the command by which a line's refusal is explained is its own. A mark has none: it is refused by `NoBus` alone, whose reason
-- is the same for each command
abbrev pub IsRefusedAs : List ℕ → Command → Type 0
IsRefusedAs line command = HasNoForm line ⊎ IsCommand line command

-- why a line has no form, as it is told; a line with a form isn't refused so
abbrev pub IsFormNote : ℕ → List ℕ → List ℕ → Type 0
IsFormNote number line note = (HasNoForm line × ((reason : List ℕ) × IsReason line reason × (note ≡ formless_note number reason))) ⊎ ((HasNoForm line → ⊥) × (note ≡ []))

-- why a line is refused, as it is told
abbrev pub IsRefusalNote : ℕ → List ℕ → Refusal → List ℕ → Type 0
IsRefusalNote number line Refusal.BadLine note = IsFormNote number line note
IsRefusalNote number line why note = (command : Command) × IsRefusedAs line command × (note ≡ refusal_note number why (reason_text command why))

-- what is told first of a line: nothing, unless it is refused
abbrev pub IsWhy : ℕ → List ℕ → Option Refusal → List ℕ → Type 0
IsWhy number line None note = note ≡ []
IsWhy number line (Some why) note = IsRefusalNote number line why note

-- the cuts that wait for the next frame: before the bus there are none
abbrev pub cuts_on : Stage → CutList
cuts_on (Stage.Before board) = no_cuts
cuts_on (Stage.Running ran) = ran.cuts

-- what is told of a slot whose cut has waited, if its device is still there
abbrev pub slot_note : ℕ → Bool → Option Name → Option ℕ → List ℕ
slot_note number true (Some name) (Some bit) = cut_note number name bit
slot_note number present name cut = []

-- the same of the slots below this one, in their order
unfoldable pub slots_told : ℕ → State → Names → CutList → ℕ → List ℕ
slots_told number st names cuts zero = []
slots_told number st names cuts (suc slot) =
    slots_told number st names cuts slot ++ slot_note number (is_some (device_at st slot)) (name_in_slot names slot) (cut_of cuts slot)

-- what is told of the cuts that waited before a line: nothing while cuts wait after it
abbrev pub AreCutNotes : ℕ → CutList → Stage → Names → List ℕ → Type 0
AreCutNotes number waited (Stage.Before board) names notes = notes ≡ []
AreCutNotes number waited (Stage.Running ran) names notes = IsEither (IsUncut ran.cuts) (slots_told number ran.state names waited SLOTS) [] notes

-- the identity of a slot's device, if there is one
abbrev pub identity_on : Stage → ℕ → Option Identity
identity_on (Stage.Before board) slot = None
identity_on (Stage.Running ran) slot = identity_of (device_at ran.state slot)

-- the device of another slot has this identity
abbrev pub IsTwin : Stage → ℕ → Identity → ℕ → Type 0
IsTwin stage slot identity other = (other ≢ slot) × (identity_on stage other ≡ Some identity)

-- the first such slot, if there is one
abbrev pub IsFirstTwin : Stage → ℕ → Identity → Option ℕ → Type 0
IsFirstTwin stage slot identity None = (other : ℕ) → other < SLOTS → IsTwin stage slot identity other → ⊥
IsFirstTwin stage slot identity (Some twin) = IsTwin stage slot identity twin × ((other : ℕ) → other < twin → IsTwin stage slot identity other → ⊥)

-- what is told of a device with this name, by the name of its twin
abbrev pub named_twin : ℕ → Name → Option Name → List ℕ
named_twin number name None = []
named_twin number name (Some other) = twin_note number name other

-- the same by the slot of its twin
abbrev pub twin_told : ℕ → Name → Names → Option ℕ → List ℕ
twin_told number name names None = []
twin_told number name names (Some twin) = named_twin number name (name_in_slot names twin)

-- what is told of a new device with this name and identity: its first twin
abbrev pub IsTwinNote : ℕ → Name → Identity → ScriptState → List ℕ → Type 0
IsTwinNote number name identity after note = MatchResult (slot_named (place_named after.names name))
    (λ slot. (twin : Option ℕ) × IsFirstTwin after.stage slot identity twin × (note ≡ twin_told number name after.names twin))
    (λ why. note ≡ [])

-- what a command that was done tells of its new device: only `main` and `attach` have one
abbrev pub IsEntryNote : ℕ → Command → ScriptState → List ℕ → Type 0
IsEntryNote number (Command.Main name setup) after note = IsTwinNote number name setup.identity after note
IsEntryNote number (Command.Attach name setup) after note = IsTwinNote number name setup.identity after note
IsEntryNote number _ after note = note ≡ []

-- the same of a line that was done: a mark and a line that is passed over have no command
abbrev pub IsDoneNote : ℕ → List ℕ → ScriptState → List ℕ → Type 0
IsDoneNote number line after note = (HasNoForm line × (note ≡ [])) ⊎ (IsSkipped line × (note ≡ [])) ⊎ ((command : Command) × IsCommand line command × IsEntryNote number command after note)

-- what is told last of a line: nothing, if it is refused
abbrev pub IsLastNote : ℕ → List ℕ → Option Refusal → ScriptState → List ℕ → Type 0
IsLastNote number line None after note = IsDoneNote number line after note
IsLastNote number line (Some why) after note = note ≡ []

-- all that is told of a line before which these cuts waited: why it was refused, the cuts, and the twin
pub record IsExplained (number : ℕ) (line : List ℕ) (refused : Option Refusal) (waited : CutList) (after : ScriptState) (told : List ℕ) : Type 0 where
  pub why : List ℕ
  pub cuts : List ℕ
  pub twin : List ℕ
  pub first : IsWhy number line refused why
  pub then : AreCutNotes number waited after.stage after.names cuts
  pub last : IsLastNote number line refused after twin
  pub all : told ≡ why ++ (cuts ++ twin)

-- a text grew by such notes
abbrev pub Adds : (List ℕ → Type 0) → List ℕ → List ℕ → Type 0
Adds Is old new = (note : List ℕ) × Is note × (new ≡ old ++ note)

-- the last command that a script read is that of a line that was done, unless the line is a mark or passed over
abbrev pub IsDoneAs : List ℕ → Command → Type 0
IsDoneAs line command = HasNoForm line ⊎ IsSkipped line ⊎ IsCommand line command

-- the same of a line with this result
abbrev pub IsReadOf : List ℕ → Result (Unit {0}) (LineError Refusal) → Command → Type 0
IsReadOf line (Ok done) command = IsDoneAs line command
IsReadOf line (Err why) command = IsRefusedAs line command

-- all that is told of a line with this result; nothing is said of one that memory is short for
abbrev pub IsOutcomeTold : ℕ → List ℕ → Result (Unit {0}) (LineError Refusal) → CutList → ScriptState → List ℕ → Type 0
IsOutcomeTold number line (Ok done) waited after told = IsExplained number line None waited after told
IsOutcomeTold number line (Err (LineError.Refused why)) waited after told = IsExplained number line (Some why) waited after told
IsOutcomeTold number line (Err LineError.Memory) waited after told = ⊤

-- what a test tells of a refused line: why it has no form, and of other refusals nothing
abbrev pub IsFormTold : ℕ → List ℕ → Refusal → List ℕ → Type 0
IsFormTold number line Refusal.BadLine told = IsFormNote number line told
IsFormTold number line why told = told ≡ []

-- the same of a line with this result
abbrev pub IsJudged : ℕ → List ℕ → Result (Unit {0}) (LineError Refusal) → List ℕ → Type 0
IsJudged number line (Ok done) told = told ≡ []
IsJudged number line (Err (LineError.Refused why)) told = IsFormTold number line why told
IsJudged number line (Err LineError.Memory) told = ⊤

-- the same of a line with this refusal, if it was refused
abbrev pub IsFormToldIf : ℕ → List ℕ → Option Refusal → List ℕ → Type 0
IsFormToldIf number line None told = told ≡ []
IsFormToldIf number line (Some why) told = IsFormTold number line why told
