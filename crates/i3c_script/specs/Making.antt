-- The steps of the bus that a script's commands are, in order.
use Rattle.std.specs.Prelude.{◌≡◌, ℕ, Bool, List, [], ◌∷◌, ◌++◌, map, Option, Some, None, Result, Ok, Err, MatchOption, MatchResult}
use Rattle.std.proofs.Common.{inl, inr}
use Rattle.i3c_base.specs.declared.answers.RoundReply.{RoundReply}
use Rattle.i3c_base.specs.declared.identity.Identity.{Identity}
use Rattle.i3c_base.specs.declared.requests.Served.{Served}
use Rattle.i3c_base.specs.Cutting.{CutList, no_cuts}
use Rattle.i3c_bus.specs.Assigning.{given_reply, last_reply}
use Rattle.i3c_step.specs.declared.events.Event.{Event}
use Rattle.i3c_step.specs.declared.replies.Reply.{Reply}
use Rattle.i3c_step.specs.Commands.{event_of}
use Rattle.i3c_log_laws.specs.Behind.{counted_from, reply_from}
use Rattle.i3c_lines.specs.Keeping.{NamesSlot, names_kept, slot_meant}
use Rattle.i3c_lines.specs.declared.command.Command.{Command}
use Rattle.i3c_lines.specs.declared.names.Name.{Name}
use Rattle.i3c_lines.specs.declared.names.Names.{Names}
use Rattle.i3c_lines.specs.declared.refusals.Refusal.{Refusal}
use Rattle.i3c_lines.specs.declared.sent.Sent.{Sent}
use Rattle.i3c_script.specs.declared.piece.Piece.{Piece}
use Rattle.i3c_script.specs.declared.replies.Subject.{Subject}
use Rattle.i3c_script.specs.declared.stage.Stage.{Stage}
use Rattle.i3c_script.specs.Asking.{acting_refusal}
use Rattle.i3c_script.specs.Assigning.{Assigns}
use Rattle.i3c_script.specs.Obeying.{Acts, Answers, AnswersOf, ComesTo, Does, IsRefused, ObeysAt, ObeysOn, ScriptState}
use Rattle.i3c_script.specs.Pieces.{subject_of}
use Rattle.i3c_script.specs.Situations.{Situation, Told, told_past}

-- an event and the reply that it got
pub record Made : Type 0 where
  pub event : Event
  pub reply : Reply

abbrev pub one : Event → Reply → List Made
one event reply = record { event = event; reply = reply } ∷ []

abbrev pub events_of : List Made → List Event
events_of [] = []
events_of (made ∷ rest) = made.event ∷ events_of rest

abbrev pub replies_of : List Made → List Reply
replies_of [] = []
replies_of (made ∷ rest) = made.reply ∷ replies_of rest

-- the events of rounds with their replies
abbrev pub rounds_made : List RoundReply → List Made
rounds_made [] = []
rounds_made (answer ∷ later) = record { event = Event.Round no_cuts; reply = Reply.Round answer } ∷ rounds_made later

-- the events of a session that gives these addresses, with their replies: its opening, its rounds, and its end
abbrev pub session_made : CutList → Served → List (ℕ × Identity) → Bool → List Made
session_made cuts served given complete = record { event = Event.OpenDaa cuts; reply = Reply.Opened served } ∷ rounds_made (map given_reply given ++ last_reply complete ∷ []) ++ one Event.EndDaa Reply.Ended

-- the events of `daa` with their replies: those of a session, whose opening counts the records that left the log too, or the
-- refused opening
abbrev pub assigns_made : (old : Situation Told) (pieces : List Piece) (refused : Option Refusal) (new : Situation Told) → Assigns told_past old pieces refused new → List Made
assigns_made old pieces refused new (inl (served, given, complete, session, told, why)) = session_made old.cuts (counted_from old.settings.forgotten served) given complete
assigns_made old pieces refused new (inr (why, moved, told, is)) = one (Event.OpenDaa old.cuts) (Reply.Refused why)

-- the event that a command asks for, with its reply, which counts the records that left the log too
abbrev pub answer_made : (subject : Subject) (old : Situation Told) (event : Event) (pieces : List Piece) (refused : Option Refusal) (new : Situation Told) → AnswersOf told_past subject old event pieces refused new → List Made
answer_made subject old event pieces refused new (reply, moved, told) = one event (reply_from old.settings.forgotten reply)

-- the same of the slot that a name means: none where the name is refused
abbrev pub slot_made : (slot : Result ℕ Refusal) (old : Situation Told) (event : ℕ → Event) (pieces : List Piece) (refused : Option Refusal) (new : Situation Told)
    → MatchResult slot (λ s. Answers told_past old (event s) pieces refused new) (λ why. (new ≡ old) × IsRefused why pieces refused) → List Made
slot_made (Ok slot) old event pieces refused new answers = answer_made (subject_of (event slot)) old (event slot) pieces refused new answers
slot_made (Err why) old event pieces refused new refuses = []

-- the event of a device that enters, with its reply: none if it is refused before
abbrev pub enters_made : (entrance : Result ℕ Refusal) (old : Situation Told) (names named : Names) (name : Name) (event : ℕ → Event) (pieces : List Piece) (refused : Option Refusal) (new : Situation Told)
    → MatchResult entrance (λ slot. NamesSlot names named name slot × AnswersOf told_past (Subject.Attached name slot) old (event slot) pieces refused new) (λ why. (named ≡ names) × (new ≡ old) × IsRefused why pieces refused) → List Made
enters_made (Ok slot) old names named name event pieces refused new enters = answer_made (Subject.Attached name slot) old (event slot) pieces refused new enters.1
enters_made (Err why) old names named name event pieces refused new refuses = []

-- the events of a line that the active controller sends, with their replies
abbrev pub acts_made : (old : Situation Told) (sent : Sent) (pieces : List Piece) (refused : Option Refusal) (new : Situation Told) → Acts told_past old sent pieces refused new → List Made
acts_made old (Sent.Frame frame) pieces refused new (fixed, accepts, answers) = answer_made (subject_of (event_of frame fixed old.cuts)) old (event_of frame fixed old.cuts) pieces refused new answers
acts_made old (Sent.HandOver to) pieces refused new does = answer_made (subject_of (Event.HandOver to old.cuts)) old (Event.HandOver to old.cuts) pieces refused new does
acts_made old Sent.Open pieces refused new does = answer_made (subject_of (Event.OpenDaa old.cuts)) old (Event.OpenDaa old.cuts) pieces refused new does
acts_made old Sent.Round pieces refused new does = answer_made (subject_of (Event.Round old.cuts)) old (Event.Round old.cuts) pieces refused new does
acts_made old Sent.End pieces refused new does = answer_made (subject_of Event.EndDaa) old Event.EndDaa pieces refused new does
acts_made old Sent.Daa pieces refused new does = assigns_made old pieces refused new does

-- the same of a controller with a name: none where it is refused
abbrev pub acts_as_made : (why : Option Refusal) (old : Situation Told) (sent : Sent) (pieces : List Piece) (refused : Option Refusal) (new : Situation Told)
    → MatchOption why (Acts told_past old sent pieces refused new) (λ one. (new ≡ old) × IsRefused one pieces refused) → List Made
acts_as_made None old sent pieces refused new acts = acts_made old sent pieces refused new acts
acts_as_made (Some why) old sent pieces refused new refuses = []

-- the events of a command other than `attach` on a bus, with their replies
abbrev pub does_made : (old : Situation Told) (names : Names) (command : Command) (pieces : List Piece) (refused : Option Refusal) (new : Situation Told) → Does told_past names_kept old names command pieces refused new → List Made
does_made old names (Command.Frame frame) pieces refused new does = acts_made old (Sent.Frame frame) pieces refused new does
does_made old names (Command.DropOff name) pieces refused new does = slot_made (slot_meant names_kept names name) old Event.DropOff pieces refused new does
does_made old names (Command.Raise name byte) pieces refused new does = slot_made (slot_meant names_kept names name) old (λ slot. Event.Raise slot byte) pieces refused new does
does_made old names (Command.AskJoin name) pieces refused new does = slot_made (slot_meant names_kept names name) old Event.AskJoin pieces refused new does
does_made old names (Command.AskRole name) pieces refused new does = slot_made (slot_meant names_kept names name) old Event.AskRole pieces refused new does
does_made old names (Command.HandOver to) pieces refused new does = acts_made old (Sent.HandOver to) pieces refused new does
does_made old names Command.Open pieces refused new does = acts_made old Sent.Open pieces refused new does
does_made old names Command.Round pieces refused new does = acts_made old Sent.Round pieces refused new does
does_made old names Command.End pieces refused new does = acts_made old Sent.End pieces refused new does
does_made old names Command.Daa pieces refused new does = acts_made old Sent.Daa pieces refused new does
does_made old names (Command.As name sent) pieces refused new does = acts_as_made (acting_refusal names_kept old.state names name) old sent pieces refused new does
does_made old names _ pieces refused new does = []

-- the events of a command on a bus, with their replies
abbrev pub on_bus_made : (old : Situation Told) (names : Names) (command : Command) (pieces : List Piece) (refused : Option Refusal) (new : Situation Told) (named : Names) → ObeysOn told_past names_kept old names command pieces refused new named → List Made
on_bus_made old names (Command.Attach name setup) pieces refused new named (entrance, is, enters) = enters_made entrance old names named name (λ slot. Event.Attach slot setup) pieces refused new enters
on_bus_made old names (Command.Frame frame) pieces refused new named (same, does) = does_made old names (Command.Frame frame) pieces refused new does
on_bus_made old names (Command.DropOff name) pieces refused new named (same, does) = does_made old names (Command.DropOff name) pieces refused new does
on_bus_made old names (Command.Raise name byte) pieces refused new named (same, does) = does_made old names (Command.Raise name byte) pieces refused new does
on_bus_made old names (Command.AskJoin name) pieces refused new named (same, does) = does_made old names (Command.AskJoin name) pieces refused new does
on_bus_made old names (Command.AskRole name) pieces refused new named (same, does) = does_made old names (Command.AskRole name) pieces refused new does
on_bus_made old names (Command.HandOver to) pieces refused new named (same, does) = does_made old names (Command.HandOver to) pieces refused new does
on_bus_made old names Command.Open pieces refused new named (same, does) = does_made old names Command.Open pieces refused new does
on_bus_made old names Command.Round pieces refused new named (same, does) = does_made old names Command.Round pieces refused new does
on_bus_made old names Command.End pieces refused new named (same, does) = does_made old names Command.End pieces refused new does
on_bus_made old names Command.Daa pieces refused new named (same, does) = does_made old names Command.Daa pieces refused new does
on_bus_made old names (Command.Policy policy) pieces refused new named (same, does) = does_made old names (Command.Policy policy) pieces refused new does
on_bus_made old names (Command.PolicyBut kinds but) pieces refused new named (same, does) = does_made old names (Command.PolicyBut kinds but) pieces refused new does
on_bus_made old names (Command.Cut name bit) pieces refused new named (same, does) = does_made old names (Command.Cut name bit) pieces refused new does
on_bus_made old names Command.Show pieces refused new named (same, does) = does_made old names Command.Show pieces refused new does
on_bus_made old names Command.ShowAll pieces refused new named (same, does) = does_made old names Command.ShowAll pieces refused new does
on_bus_made old names (Command.ShowFrom first) pieces refused new named (same, does) = does_made old names (Command.ShowFrom first) pieces refused new does
on_bus_made old names (Command.Forget last) pieces refused new named (same, does) = does_made old names (Command.Forget last) pieces refused new does
on_bus_made old names Command.Symbols pieces refused new named (same, does) = does_made old names Command.Symbols pieces refused new does
on_bus_made old names (Command.Frames count) pieces refused new named (same, does) = does_made old names (Command.Frames count) pieces refused new does
on_bus_made old names (Command.As name sent) pieces refused new named (same, does) = does_made old names (Command.As name sent) pieces refused new does
on_bus_made old names (Command.Legacy name address lvr) pieces refused new named (same, does) = does_made old names (Command.Legacy name address lvr) pieces refused new does
on_bus_made old names (Command.Declare address identity) pieces refused new named (same, does) = does_made old names (Command.Declare address identity) pieces refused new does
on_bus_made old names (Command.Main name setup) pieces refused new named (same, does) = does_made old names (Command.Main name setup) pieces refused new does

-- the events of a command with these pieces, with their replies: none before the bus
abbrev pub pieces_made : (stage : Stage) (names : Names) (command : Command) (pieces : List Piece) (refused : Option Refusal) (new : ScriptState) → ComesTo stage names command pieces refused new → List Made
pieces_made (Stage.Before board) names command pieces refused new comes = []
pieces_made (Stage.Running old) names command pieces refused new (on_bus, is, comes) = on_bus_made old names command pieces refused on_bus new.names comes

-- the same of what it prints
abbrev pub command_made : (stage : Stage) (names : Names) (command : Command) (said : List ℕ) (refused : Option Refusal) (new : ScriptState) → ObeysAt stage names command said refused new → List Made
command_made stage names command said refused new (pieces, comes, text) = pieces_made stage names command pieces refused new comes
