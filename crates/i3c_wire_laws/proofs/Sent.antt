-- Runs that go on, and whole assignments, by what they send.
use Rattle.std.proofs.Common.{◌∙◌, ℕ, Bool, List, [], ◌∷◌, ◌++◌, append-nil, append_assoc, map, ap, refl, sym, subst}
use Rattle.i3c_base.specs.declared.answers.RoundReply.{RoundReply}
use Rattle.i3c_base.specs.declared.identity.Identity.{Identity}
use Rattle.i3c_base.specs.declared.requests.Served.{Served}
use Rattle.i3c_base.specs.Cutting.{CutList, no_cuts}
use Rattle.i3c_base.specs.State.{State}
use Rattle.i3c_frame.specs.declared.symbols.Symbol.{Symbol}
use Rattle.i3c_step.specs.declared.events.Event.{Event}
use Rattle.i3c_step.specs.declared.replies.Reply.{Reply}
use Rattle.i3c_bus.specs.Assigning.{AreRounds, IsAssignment, Sends}
use Rattle.i3c_wire_laws.specs.Wires.{IsSent, assignment_events, assignment_replies, round_answers}

-- a run that goes on
pub sent_on : (old : State) (events : List Event) (replies : List Reply) (mid : State) (wire : List Symbol) (later : List Event) (answers : List Reply) (new : State) (rest : List Symbol)
    → IsSent old events replies mid wire → IsSent mid later answers new rest → IsSent old (events ++ later) (replies ++ answers) new (wire ++ rest)
sent_on old [] [] mid wire later answers new rest h k =
    subst (λ w. IsSent old later answers new (w ++ rest)) (sym h.1) (subst (λ st. IsSent st later answers new rest) h.0 k)
sent_on old (event ∷ events) (reply ∷ replies) mid wire later answers new rest h k = (
  h.0,
  h.1,
  h.2 ++ rest,
  h.3,
  sent_on h.0 events replies mid h.2 later answers new rest h.4 k,
  ap (λ w. w ++ rest) h.5 ∙ append_assoc h.1 h.2 rest,
)
sent_on old [] (reply ∷ replies) mid wire later answers new rest h k = absurd h
sent_on old (event ∷ events) [] mid wire later answers new rest h k = absurd h

one_sent : (old : State) (event : Event) (reply : Reply) (wire : List Symbol) (new : State) → Sends old event reply wire new → IsSent old (event ∷ []) (reply ∷ []) new wire
one_sent old event reply wire new h = (new, wire, [], h, (refl, refl), sym (append-nil wire))

rounds_sent : (old : State) (answers : List RoundReply) (wire : List Symbol) (new : State) → AreRounds old answers wire new
    → IsSent old (map (λ _. Event.Round no_cuts) answers) (map Reply.Round answers) new wire
rounds_sent old [] wire new h = (h.1, h.0)
rounds_sent old (answer ∷ later) wire new h = (h.0, h.1, h.2, h.3, rounds_sent h.0 later h.2 new h.4, h.5)

pub assignment_sent : (old : State) (cuts : CutList) (served : Served) (given : List (ℕ × Identity)) (complete : Bool) (new : State) (wire : List Symbol)
    → IsAssignment old cuts served given complete new wire
    → IsSent old (assignment_events cuts (round_answers given complete)) (assignment_replies served (round_answers given complete)) new wire
assignment_sent old cuts served given complete new wire h =
    let answers = round_answers given complete in
    let rest = sent_on h.opened (map (λ _. Event.Round no_cuts) answers) (map Reply.Round answers) h.last h.rounds (Event.EndDaa ∷ []) (Reply.Ended ∷ []) new h.ending
    (rounds_sent h.opened answers h.rounds h.last h.gives) (one_sent h.last Event.EndDaa Reply.Ended h.ending new h.ends) in
    (h.opened, h.opening, h.rounds ++ h.ending, h.opens, rest, h.sent)
