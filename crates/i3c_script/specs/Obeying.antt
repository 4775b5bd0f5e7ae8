-- What a line's command does, what it comes to, and why it is refused.
use Rattle.std.specs.Prelude.{◌≡◌, ℕ, ◌-◌, List, [], ◌∷◌, Option, Some, None, Result, MatchOption, MatchResult, if◌then◌else◌, is_some, option_map, slice_set, replicate}
use Rattle.i3c_base.specs.declared.device.Setup.{Setup}
use Rattle.i3c_base.specs.declared.identity.Bcr.{Bcr}
use Rattle.i3c_base.specs.declared.identity.Identity.{Identity}
use Rattle.i3c_base.specs.declared.identity.Lvr.{Lvr}
use Rattle.i3c_base.specs.declared.range.TheConstants.{ADDRESSES, SLOTS}
use Rattle.i3c_base.specs.declared.requests.Fixed.{Fixed}
use Rattle.i3c_base.specs.Cutting.{CutList, cut_of, earlier, no_cuts}
use Rattle.i3c_base.specs.Numbers.{is_capable}
use Rattle.i3c_base.specs.State.{Board, IsStart, State, device_at, no_board}
use Rattle.i3c_bus.specs.Readings.{address_of}
use Rattle.i3c_frame.specs.declared.symbols.Symbol.{Symbol}
use Rattle.i3c_legacy.specs.Declaring.{first_declare_fault, first_fault}
use Rattle.i3c_step.specs.declared.events.Command.{Command as Frame}
use Rattle.i3c_step.specs.declared.events.Event.{Event}
use Rattle.i3c_step.specs.declared.replies.Refusal.{Refusal as BusRefusal}
use Rattle.i3c_step.specs.declared.replies.Reply.{Reply}
use Rattle.i3c_step.specs.Commands.{event_of}
use Rattle.i3c_log_laws.specs.Behind.{reply_from}
use Rattle.i3c_lines.specs.declared.command.Command.{Command}
use Rattle.i3c_lines.specs.declared.names.Name.{Name}
use Rattle.i3c_lines.specs.declared.names.Names.{Names}
use Rattle.i3c_lines.specs.declared.names.Place.{Place}
use Rattle.i3c_lines.specs.declared.refusals.Refusal.{Refusal}
use Rattle.i3c_lines.specs.declared.sent.Sent.{Sent}
use Rattle.i3c_lines.specs.Keeping.{NamesKept, NamesSlot, names_kept, slot_meant}
use Rattle.i3c_lines.specs.Naming.{GivesAlone, legacy_names, place_named, slot_names}
use Rattle.i3c_text.specs.declared.line_error.LineError.{LineError}
use Rattle.i3c_script.specs.declared.piece.Piece.{Piece}
use Rattle.i3c_script.specs.declared.replies.Subject.{Subject}
use Rattle.i3c_script.specs.declared.settings.Settings.{Settings}
use Rattle.i3c_script.specs.declared.stage.Stage.{Stage}
use Rattle.i3c_script.specs.Accepting.{Accepts, Forgets, IsSet, at_first}
use Rattle.i3c_script.specs.Asking.{IsEntrance, acting_refusal, slot_of_device, slots_named}
use Rattle.i3c_script.specs.Assigning.{Assigns, Moves}
use Rattle.i3c_script.specs.Hearing.{Hears}
use Rattle.i3c_script.specs.Pieces.{frames_pieces, show_all_pieces, show_behind_pieces, show_pieces, subject_of, symbols_pieces}
use Rattle.i3c_script.specs.Printed.{pieces_text}
use Rattle.i3c_script.specs.Situations.{PastKept, Situation, Told, last_symbols, told_past}
use Rattle.i3c_script.specs.Telling.{IsTold, Prints}

-- where a script is between two lines: its bus, or what is declared so far, and its names
pub record ScriptState : Type 0 where
  pub stage : Stage
  pub names : Names

abbrev pub script : Stage → Names → ScriptState
script stage names = record { stage = stage; names = names }

-- the last symbols of a stage's wire: before the bus there are none
abbrev pub wire_on : Stage → List Symbol
wire_on (Stage.Before board) = []
wire_on (Stage.Running on_bus) = last_symbols on_bus.past

-- the start of a script: no bus, nothing declared, and no name
pub record IsBegun (state : ScriptState) : Type 0 where
  pub stage : state.stage ≡ Stage.Before no_board
  pub unnamed : (name : Name) → place_named state.names name ≡ None
  pub slots : slot_names state.names ≡ replicate SLOTS None
  pub legacies : legacy_names state.names ≡ replicate ADDRESSES None

-- the legacy target at a static address gets this name
pub record NamesLegacy (old new : Names) (name : Name) (address : ℕ) : Type 0 where
  pub given : GivesAlone old new name (Place.Legacy address)
  pub legacies : legacy_names new ≡ slice_set (legacy_names old) address (Some name)
  pub slots : slot_names new ≡ slot_names old

-- a refused line comes to nothing but its refusal
abbrev pub IsRefused : Refusal → List Piece → Option Refusal → Type 0
IsRefused why pieces refused = (pieces ≡ []) × (refused ≡ Some why)

-- a line that isn't refused comes to these
abbrev pub IsDone : List Piece → List Piece → Option Refusal → Type 0
IsDone all pieces refused = (pieces ≡ all) × (refused ≡ None)

-- before the bus: why `legacy` is refused, if it is
abbrev pub legacy_refusal : Board → Names → Name → ℕ → Option Refusal
legacy_refusal board names name address =
    if is_some (place_named names name) then Some Refusal.NameTaken else option_map Refusal.Legacy (first_fault board address)

-- why `declare` is refused, if it is
abbrev pub declare_refusal : Board → ℕ → Identity → Option Refusal
declare_refusal board address identity = option_map Refusal.Declare (first_declare_fault board address identity)

-- why `main` is refused, if it is
abbrev pub main_refusal : Names → Name → Bcr → Option Refusal
main_refusal names name bcr =
    if is_some (place_named names name) then Some Refusal.NameTaken else
    (if is_capable bcr then None else Some (Refusal.Bus BusRefusal.NotCapable))

-- a legacy target is declared, and has its name from then on
pub record AddsLegacy (board : Board) (names : Names) (name : Name) (address : ℕ) (lvr : Lvr) (new : ScriptState) : Type 0 where
  pub stage : new.stage ≡ Stage.Before (record board { legacy = slice_set board.legacy address (Some lvr) })
  pub named : NamesLegacy names new.names name address

-- an identity is declared, and no name is given
abbrev pub Declares : Board → Names → ℕ → Identity → ScriptState → Type 0
Declares board names address identity new = new ≡ script (Stage.Before (record board { declared = slice_set board.declared address (Some identity) })) names

-- the bus starts with its main controller: its frames accept each request, no cut waits, nothing was sent, and nobody was
-- active before
pub record Starts (board : Board) (names : Names) (name : Name) (setup : Setup) (begun : Situation Told) (new : ScriptState) : Type 0 where
  pub stage : new.stage ≡ Stage.Running begun
  pub start : IsStart setup board begun.state
  pub settings : begun.settings ≡ at_first
  pub cuts : begun.cuts ≡ no_cuts
  pub past : begun.past ≡ record { wire = []; ended = [] }
  pub named : NamesSlot names new.names name 0

-- what a command does before the bus
abbrev pub ObeysBefore : Board → Names → Command → List Piece → Option Refusal → ScriptState → Type 0
ObeysBefore board names (Command.Legacy name address lvr) pieces refused new = MatchOption (legacy_refusal board names name address)
    (AddsLegacy board names name address lvr new × IsDone (Piece.Legacy name address ∷ []) pieces refused)
    (λ why. (new ≡ script (Stage.Before board) names) × IsRefused why pieces refused)
ObeysBefore board names (Command.Declare address identity) pieces refused new = MatchOption (declare_refusal board address identity)
    (Declares board names address identity new × IsDone (Piece.Declared address ∷ []) pieces refused)
    (λ why. (new ≡ script (Stage.Before board) names) × IsRefused why pieces refused)
ObeysBefore board names (Command.Main name setup) pieces refused new = MatchOption (main_refusal names name setup.identity.bcr)
    ((begun : Situation Told) × Starts board names name setup begun new × IsDone (Piece.Main name (address_of (device_at begun.state 0)) ∷ []) pieces refused)
    (λ why. (new ≡ script (Stage.Before board) names) × IsRefused why pieces refused)
ObeysBefore board names _ pieces refused new = (new ≡ script (Stage.Before board) names) × IsRefused Refusal.NoBus pieces refused

-- one step of the bus, whose reply is told with this subject; it counts the records that left the log too
abbrev pub AnswersOf : {P : Type 0} → PastKept P → Subject → Situation P → Event → List Piece → Option Refusal → Situation P → Type 0
AnswersOf past subject old event pieces refused new = (reply : Reply) × Moves past old event reply new × IsTold subject (reply_from old.settings.forgotten reply) pieces refused

-- the same with the subject of the event
abbrev pub Answers : {P : Type 0} → PastKept P → Situation P → Event → List Piece → Option Refusal → Situation P → Type 0
Answers past old event pieces refused new = AnswersOf past (subject_of event) old event pieces refused new

-- the same with the event of the slot that a name means
abbrev pub AnswersIn : {P N : Type 0} → PastKept P → NamesKept N → Situation P → N → Name → (ℕ → Event) → List Piece → Option Refusal → Situation P → Type 0
AnswersIn past kept old names name event pieces refused new = MatchResult (slot_meant kept names name) (λ slot. Answers past old (event slot) pieces refused new)
    (λ why. (new ≡ old) × IsRefused why pieces refused)

-- a device enters the lowest free slot and has its name from then on
abbrev pub Enters : {P N : Type 0} → PastKept P → NamesKept N → Situation P → N → Name → Setup → List Piece → Option Refusal → Situation P → N → Type 0
Enters past kept old names name setup pieces refused new named = (entrance : Result ℕ Refusal) × IsEntrance old.state (kept.place names name) entrance
    × MatchResult entrance (λ slot. kept.gives names named name slot × AnswersOf past (Subject.Attached name slot) old (Event.Attach slot setup) pieces refused new)
    (λ why. (named ≡ names) × (new ≡ old) × IsRefused why pieces refused)

-- a device is cut at this bit of the next frame, if that is earlier than its cut until now
abbrev pub cut_at : CutList → ℕ → ℕ → CutList
cut_at cuts slot bit = slice_set cuts slot (Some (earlier (cut_of cuts slot) bit))

-- a frame under the role, which accepts what the lines have set
abbrev pub Sends : {P : Type 0} → PastKept P → Situation P → Frame → List Piece → Option Refusal → Situation P → Type 0
Sends past old frame pieces refused new = (fixed : Fixed) × Accepts old.settings old.state fixed × Answers past old (event_of frame fixed old.cuts) pieces refused new

-- a line sets what frames accept
abbrev pub Sets : {P : Type 0} → Situation P → Fixed → List ℕ → Situation P → Type 0
Sets old kinds slots new = (settings : Settings) × IsSet kinds slots old.settings settings × (new ≡ record old { settings = settings })

-- the records up to a number leave the log
abbrev pub Relieves : {P : Type 0} → Situation P → ℕ → Situation P → Type 0
Relieves old last new = (settings : Settings) × (st : State) × Forgets last old.settings old.state settings st × (new ≡ record old { state = st; settings = settings })

-- what a line does that the active controller sends
abbrev pub Acts : {P : Type 0} → PastKept P → Situation P → Sent → List Piece → Option Refusal → Situation P → Type 0
Acts past old (Sent.Frame frame) pieces refused new = Sends past old frame pieces refused new
Acts past old (Sent.HandOver to) pieces refused new = Answers past old (Event.HandOver to old.cuts) pieces refused new
Acts past old Sent.Open pieces refused new = Answers past old (Event.OpenDaa old.cuts) pieces refused new
Acts past old Sent.Round pieces refused new = Answers past old (Event.Round old.cuts) pieces refused new
Acts past old Sent.End pieces refused new = Answers past old Event.EndDaa pieces refused new
Acts past old Sent.Daa pieces refused new = Assigns past old pieces refused new

-- the same of the controller with this name: if it isn't the active one, nothing happens
abbrev pub ActsAs : {P N : Type 0} → PastKept P → NamesKept N → Situation P → N → Name → Sent → List Piece → Option Refusal → Situation P → Type 0
ActsAs past kept old names name sent pieces refused new = MatchOption (acting_refusal kept old.state names name) (Acts past old sent pieces refused new)
    (λ why. (new ≡ old) × IsRefused why pieces refused)

-- what a command other than `attach` does on a bus
abbrev pub Does : {P N : Type 0} → PastKept P → NamesKept N → Situation P → N → Command → List Piece → Option Refusal → Situation P → Type 0
Does past kept old names (Command.Frame frame) pieces refused new = Acts past old (Sent.Frame frame) pieces refused new
Does past kept old names (Command.DropOff name) pieces refused new = AnswersIn past kept old names name Event.DropOff pieces refused new
Does past kept old names (Command.Raise name byte) pieces refused new = AnswersIn past kept old names name (λ slot. Event.Raise slot byte) pieces refused new
Does past kept old names (Command.AskJoin name) pieces refused new = AnswersIn past kept old names name Event.AskJoin pieces refused new
Does past kept old names (Command.AskRole name) pieces refused new = AnswersIn past kept old names name Event.AskRole pieces refused new
Does past kept old names (Command.HandOver to) pieces refused new = Acts past old (Sent.HandOver to) pieces refused new
Does past kept old names Command.Open pieces refused new = Acts past old Sent.Open pieces refused new
Does past kept old names Command.Round pieces refused new = Acts past old Sent.Round pieces refused new
Does past kept old names Command.End pieces refused new = Acts past old Sent.End pieces refused new
Does past kept old names Command.Daa pieces refused new = Acts past old Sent.Daa pieces refused new
Does past kept old names (Command.As name sent) pieces refused new = ActsAs past kept old names name sent pieces refused new
Does past kept old names (Command.Policy kinds) pieces refused new = Sets old kinds [] new × IsDone [] pieces refused
Does past kept old names (Command.PolicyBut kinds but) pieces refused new = MatchResult (slots_named (slot_of_device kept old.state names) but.items)
    (λ slots. Sets old kinds slots new × IsDone [] pieces refused)
    (λ why. (new ≡ old) × IsRefused why pieces refused)
Does past kept old names (Command.Cut name bit) pieces refused new = MatchResult (slot_of_device kept old.state names name)
    (λ slot. (new ≡ record old { cuts = cut_at old.cuts slot bit }) × IsDone [] pieces refused)
    (λ why. (new ≡ old) × IsRefused why pieces refused)
Does past kept old names Command.Show pieces refused new = (new ≡ old) × IsDone (show_pieces kept old.settings.forgotten old.state names) pieces refused
Does past kept old names Command.ShowAll pieces refused new = (new ≡ old) × IsDone (show_all_pieces kept old.settings.forgotten old.state names (past.ended old.past)) pieces refused
Does past kept old names (Command.ShowFrom first) pieces refused new = (new ≡ old) × IsDone (show_behind_pieces kept (first - 1 - old.settings.forgotten) old.settings.forgotten old.state names) pieces refused
Does past kept old names (Command.Forget last) pieces refused new = Relieves old last new × IsDone [] pieces refused
Does past kept old names Command.Symbols pieces refused new = (new ≡ old) × IsDone (symbols_pieces (past.symbols old.past)) pieces refused
Does past kept old names (Command.Frames count) pieces refused new = (new ≡ old) × IsDone (frames_pieces count (past.symbols old.past)) pieces refused
Does past kept old names (Command.Legacy name address lvr) pieces refused new = (new ≡ old) × IsRefused Refusal.BusMade pieces refused
Does past kept old names (Command.Declare address identity) pieces refused new = (new ≡ old) × IsRefused Refusal.BusMade pieces refused
Does past kept old names (Command.Main name setup) pieces refused new = (new ≡ old) × IsRefused Refusal.BusMade pieces refused
Does past kept old names (Command.Attach name setup) pieces refused new = ⊥

-- what a command does on a bus, with whatever is kept of names and of the past: `attach` alone gives a name
abbrev pub ObeysOn : {P N : Type 0} → PastKept P → NamesKept N → Situation P → N → Command → List Piece → Option Refusal → Situation P → N → Type 0
ObeysOn past kept old names (Command.Attach name setup) pieces refused new named = Enters past kept old names name setup pieces refused new named
ObeysOn past kept old names command pieces refused new named = (named ≡ names) × Does past kept old names command pieces refused new

-- the same by where the script is
abbrev pub ComesTo : Stage → Names → Command → List Piece → Option Refusal → ScriptState → Type 0
ComesTo (Stage.Before board) names command pieces refused new = ObeysBefore board names command pieces refused new
ComesTo (Stage.Running old) names command pieces refused new = (on_bus : Situation Told) × (new.stage ≡ Stage.Running on_bus) × ObeysOn told_past names_kept old names command pieces refused on_bus new.names

-- the same with what it prints: the text of its pieces
abbrev pub ObeysAt : Stage → Names → Command → List ℕ → Option Refusal → ScriptState → Type 0
ObeysAt stage names command said refused new = (pieces : List Piece) × ComesTo stage names command pieces refused new × (said ≡ pieces_text pieces)

-- what a command does, what it prints before its refusal, and why it is refused, if it is. A command that is short of memory ends the run, so it is none of these
abbrev pub Obeys : ScriptState → Command → List ℕ → Option Refusal → ScriptState → Type 0
Obeys old command said refused new = ObeysAt old.stage old.names command said refused new

-- a command is obeyed for a listener, unless memory is short
abbrev pub IsHeard : {L : Type 0} → (L → Piece → L) → ScriptState → Command → L → L → Result (Unit {0}) (LineError Refusal) → ScriptState → Type 0
IsHeard heard old command before after result new = Hears heard (λ pieces refused. ComesTo old.stage old.names command pieces refused new) before after result

-- a command is obeyed, unless memory is short
abbrev pub IsObeyed : ScriptState → Command → List ℕ → List ℕ → Result (Unit {0}) (LineError Refusal) → ScriptState → Type 0
IsObeyed old command before after result new = Prints (λ said refused. Obeys old command said refused new) before after result
