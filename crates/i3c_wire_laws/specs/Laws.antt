-- What holds of all that a bus sends.
use Rattle.std.specs.Prelude.{◌≡◌, ℕ, Bool, false, List, ◌++◌, map, All, None}
use Rattle.i3c_base.specs.declared.addresses.Addresses.{Addresses}
use Rattle.i3c_base.specs.declared.device.Setup.{Setup}
use Rattle.i3c_base.specs.declared.identity.Identity.{Identity}
use Rattle.i3c_base.specs.declared.requests.Served.{Served}
use Rattle.i3c_base.specs.Cutting.{CutList}
use Rattle.i3c_base.specs.State.{Board, IsStart, State}
use Rattle.i3c_frame.specs.declared.symbols.Symbol.{Symbol}
use Rattle.i3c_frame.specs.Texts.{IsInRange}
use Rattle.i3c_step.specs.declared.events.Event.{Event}
use Rattle.i3c_step.specs.declared.replies.Reply.{Reply}
use Rattle.i3c_step.specs.Sound.{IsSound}
use Rattle.i3c_bus.specs.Assigning.{IsAssignment, Sends}
use Rattle.i3c_wave.specs.declared.reader.Reading.{Reading}
use Rattle.i3c_wave.specs.Awaited.{IsWireFrom}
use Rattle.i3c_wave.specs.Edges.{free_lines, marks_heard}
use Rattle.i3c_wave.specs.Levels.{wire_levels}
use Rattle.i3c_wave.specs.Reading.{awaiting, read_from}
use Rattle.i3c_wire_laws.specs.Fitting.{EventFits, Fits, StartFits}
use Rattle.i3c_wire_laws.specs.Wires.{AreLegacies, IsSent, Leads, assignment_events, assignment_replies, place_in, round_answers}

-- what an event of a sound bus sends leads from the place of the wire before to the one after, and legacy targets keep their addresses
abbrev pub EventsSendWires : Type 0
EventsSendWires = (legacies : Addresses) (old : State) (event : Event) (reply : Reply) (wire : List Symbol) (new : State)
    → IsSound old → AreLegacies old.legacy legacies.0 → Sends old event reply wire new
    → Leads legacies.0 (place_in old) wire (place_in new) × AreLegacies new.legacy legacies.0

-- where the numbers of a sound bus and of an event fit their types, those in what the event sends do, and those of the bus do after it
abbrev pub EventsFit : Type 0
EventsFit = (old : State) (event : Event) (reply : Reply) (wire : List Symbol) (new : State)
    → IsSound old → Fits old → EventFits event → Sends old event reply wire new → All IsInRange wire × Fits new

-- what the events of a legal run send leads from outside a frame to the place in the last state
abbrev pub RunsSendWires : Type 0
RunsSendWires = (legacies : Addresses) (main : Setup) (board : Board) (start : State) (events : List Event) (replies : List Reply) (new : State) (wire : List Symbol)
    → AreLegacies board.legacy legacies.0 → IsStart main board start → IsSent start events replies new wire → Leads legacies.0 None wire (place_in new)

-- if no session is open at the end, what they send is a wire: whole frames in which each symbol is allowed at its place
abbrev pub RunsAreWires : Type 0
RunsAreWires = (legacies : Addresses) (main : Setup) (board : Board) (start : State) (events : List Event) (replies : List Reply) (new : State) (wire : List Symbol)
    → AreLegacies board.legacy legacies.0 → StartFits main board → All EventFits events → IsStart main board start → IsSent start events replies new wire → new.in_session ≡ false
    → IsWireFrom legacies.0 None wire

-- the symbols of a legal run's wire are read back from the levels, one by one
abbrev pub RunsAreReadBack : Type 0
RunsAreReadBack = (legacies : Addresses) (main : Setup) (board : Board) (start : State) (events : List Event) (replies : List Reply) (new : State) (wire : List Symbol)
    → AreLegacies board.legacy legacies.0 → StartFits main board → All EventFits events → IsStart main board start → IsSent start events replies new wire → new.in_session ≡ false
    → read_from (awaiting legacies None) (marks_heard free_lines (wire_levels wire)) ≡ map Reading.Symbol wire

-- what a whole assignment sends, its events send as a run does
abbrev pub AssignmentsAreSent : Type 0
AssignmentsAreSent = (old : State) (cuts : CutList) (served : Served) (given : List (ℕ × Identity)) (complete : Bool) (new : State) (wire : List Symbol)
    → IsAssignment old cuts served given complete new wire
    → IsSent old (assignment_events cuts (round_answers given complete)) (assignment_replies served (round_answers given complete)) new wire

-- what goes on as a run goes on as what it sends
abbrev pub RunsGoOn : Type 0
RunsGoOn = (old : State) (events : List Event) (replies : List Reply) (mid : State) (wire : List Symbol) (later : List Event) (answers : List Reply) (new : State) (rest : List Symbol)
    → IsSent old events replies mid wire → IsSent mid later answers new rest → IsSent old (events ++ later) (replies ++ answers) new (wire ++ rest)
