-- Steps of a bus on which lines are obeyed, and `daa`: a whole session of dynamic address assignment.
use Rattle.std.specs.Prelude.{◌≡◌, ◌⊎◌, ℕ, Bool, List, [], ◌∷◌, ◌++◌, map, Option, Some, None, Result, Ok, Err, is_some, if◌then◌else◌}
use Rattle.i3c_base.specs.declared.answers.RoundReply.{RoundReply}
use Rattle.i3c_base.specs.declared.identity.Identity.{Identity}
use Rattle.i3c_base.specs.declared.requests.Served.{Served}
use Rattle.i3c_base.specs.Cutting.{CutList, no_cuts}
use Rattle.i3c_base.specs.State.{State}
use Rattle.i3c_step.specs.declared.events.Event.{Event}
use Rattle.i3c_step.specs.declared.replies.ActiveStays.{ActiveStays}
use Rattle.i3c_step.specs.declared.replies.Refusal.{Refusal as BusRefusal}
use Rattle.i3c_step.specs.declared.replies.Reply.{Reply}
use Rattle.i3c_step.specs.Slots.{is_handed}
use Rattle.i3c_step.specs.Step.{Step, cuts_in}
use Rattle.i3c_bus.specs.Assigning.{IsAssignment, given_reply, last_reply}
use Rattle.i3c_bus.specs.Wire.{IsWire}
use Rattle.i3c_lines.specs.declared.refusals.Refusal.{Refusal}
use Rattle.i3c_script.specs.declared.piece.Piece.{Piece}
use Rattle.i3c_script.specs.Pieces.{behind_request, session_pieces}
use Rattle.i3c_script.specs.Situations.{PastKept, Sends, Situation, recorded_in}

-- the cuts that wait after an event: a frame takes them all
abbrev pub cuts_left : Event → CutList → CutList
cuts_left event cuts = if is_some (cuts_in event) then no_cuts else cuts

-- a granted handover ends the tenure of the controller that was active
abbrev pub ended_by : {P : Type 0} → PastKept P → Reply → ℕ → ℕ → P → P
ended_by kept reply slot records past = if is_handed reply then kept.ends past slot records else past

-- one step of the bus: the event with this reply, whose wire goes to what is kept of the past
pub record Moves {P : Type 0} (kept : PastKept P) (old : Situation P) (event : Event) (reply : Reply) (new : Situation P) : Type 0 where
  pub sent : P
  pub step : Step old.state event reply new.state
  pub sends : Sends kept old.past (IsWire old.state event reply new.state) sent
  pub settings : new.settings ≡ old.settings
  pub cuts : new.cuts ≡ cuts_left event old.cuts
  pub past : new.past ≡ ended_by kept reply old.state.active (recorded_in new) sent

-- rounds with these answers, in order, in which nobody is cut
abbrev pub Rounds : State → List RoundReply → State → Type 0
Rounds old [] new = new ≡ old
Rounds old (answer ∷ later) new = (mid : State) × Step old (Event.Round no_cuts) (Reply.Round answer) mid × Rounds mid later new

-- a whole session, which gives these identities these addresses: its opening with the cuts that wait, its rounds and its end;
-- and its wire
pub record IsSession {P : Type 0} (kept : PastKept P) (old : Situation P) (served : Served) (given : List (ℕ × Identity)) (complete : Bool) (new : Situation P) : Type 0 where
  pub opened : State
  pub last : State
  pub opens : Step old.state (Event.OpenDaa old.cuts) (Reply.Opened served) opened
  pub gives : Rounds opened (map given_reply given ++ last_reply complete ∷ []) last
  pub ends : Step last Event.EndDaa Reply.Ended new.state
  pub sends : Sends kept old.past (IsAssignment old.state old.cuts served given complete new.state) new.past
  pub settings : new.settings ≡ old.settings
  pub cuts : new.cuts ≡ no_cuts

-- why a whole session is refused, if it is: no address was left
abbrev pub session_refusal : Bool → Option Refusal
session_refusal complete = if complete then None else Some (Refusal.Bus BusRefusal.NoAddress)

-- what is told of a whole session, and why it is refused, if it is
abbrev pub IsSessionTold : Result (Unit {0}) ActiveStays → Served → List (ℕ × Identity) → Bool → List Piece → Option Refusal → Type 0
IsSessionTold (Ok done) served given complete pieces refused = (pieces ≡ behind_request served (session_pieces given complete)) × (refused ≡ session_refusal complete)
IsSessionTold (Err why) served given complete pieces refused = (pieces ≡ []) × (refused ≡ Some (Refusal.Bus BusRefusal.ActiveStays))

-- `daa`: a whole session, or its opening is refused
abbrev pub Assigns : {P : Type 0} → PastKept P → Situation P → List Piece → Option Refusal → Situation P → Type 0
Assigns kept old pieces refused new =
    ((served : Served) × (given : List (ℕ × Identity)) × (complete : Bool) × IsSession kept old served given complete new
    × (pieces ≡ behind_request served (session_pieces given complete)) × (refused ≡ session_refusal complete))
    ⊎ ((why : BusRefusal) × Moves kept old (Event.OpenDaa old.cuts) (Reply.Refused why) new × (pieces ≡ []) × (refused ≡ Some (Refusal.Bus why)))
