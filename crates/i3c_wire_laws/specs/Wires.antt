-- Wires of several events: what they send, and where a wire is between two of them.
use Rattle.std.specs.Prelude.{◌≡◌, ℕ, Bool, true, false, List, [], ◌∷◌, ◌++◌, map, Option, Some, None, option_and_then, is_some, slice_index_or, if◌then◌else◌}
use Rattle.i3c_base.specs.declared.answers.RoundReply.{RoundReply}
use Rattle.i3c_base.specs.declared.identity.Identity.{Identity}
use Rattle.i3c_base.specs.declared.requests.Served.{Served}
use Rattle.i3c_base.specs.Cutting.{CutList, no_cuts}
use Rattle.i3c_base.specs.Sets.{is_in}
use Rattle.i3c_base.specs.State.{State}
use Rattle.i3c_frame.specs.declared.symbols.Symbol.{Symbol}
use Rattle.i3c_step.specs.declared.events.Event.{Event}
use Rattle.i3c_step.specs.declared.replies.Reply.{Reply}
use Rattle.i3c_bus.specs.Assigning.{Sends, given_reply, last_reply}
use Rattle.i3c_wave.specs.declared.awaited.Awaited.{Awaited}
use Rattle.i3c_wave.specs.Awaited.{next_place}

-- the place behind symbols, if each is allowed at its place
abbrev pub place_behind : ℕ → Option Awaited → List Symbol → Option (Option Awaited)
place_behind legacies place [] = Some place
place_behind legacies place (symbol ∷ rest) = option_and_then (λ next. place_behind legacies next rest) (next_place legacies place symbol)

-- symbols lead from the one place to the other, and each is allowed at its place
abbrev pub Leads : ℕ → Option Awaited → List Symbol → Option Awaited → Type 0
Leads legacies place symbols next = place_behind legacies place symbols ≡ Some next

-- the place between two events: inside the frame of an assignment while a session is open, otherwise outside a frame
abbrev pub place_in : State → Option Awaited
place_in st = if st.in_session then Some (Awaited.Word true) else None

-- the set has just the addresses of these legacy targets, and 7E, which all I3C devices hear, is none of them
pub record AreLegacies {A : Type 0} (targets : List (Option A)) (set : ℕ) : Type 0 where
  pub same : (a : ℕ) → is_in set a ≡ is_some (slice_index_or targets a None)
  pub others : is_in set 0x7E ≡ false

-- these events with these replies, one for each, lead from the one state to the other, and send this wire
abbrev pub IsSent : State → List Event → List Reply → State → List Symbol → Type 0
IsSent old [] [] new wire = (new ≡ old) × (wire ≡ [])
IsSent old (event ∷ events) (reply ∷ replies) new wire =
    (mid : State) × (first : List Symbol) × (rest : List Symbol) × Sends old event reply first mid × IsSent mid events replies new rest × (wire ≡ first ++ rest)
IsSent old [] (reply ∷ replies) new wire = ⊥
IsSent old (event ∷ events) [] new wire = ⊥

-- the answers of the rounds of a whole assignment
abbrev pub round_answers : List (ℕ × Identity) → Bool → List RoundReply
round_answers given complete = map given_reply given ++ last_reply complete ∷ []

-- the events of a whole assignment, with as many rounds as answers
abbrev pub assignment_events : CutList → List RoundReply → List Event
assignment_events cuts answers = Event.OpenDaa cuts ∷ (map (λ _. Event.Round no_cuts) answers ++ Event.EndDaa ∷ [])

-- the replies to an assignment: to its opening, its rounds and its end
abbrev pub assignment_replies : Served → List RoundReply → List Reply
assignment_replies served answers = Reply.Opened served ∷ (map Reply.Round answers ++ Reply.Ended ∷ [])
