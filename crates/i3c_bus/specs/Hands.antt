-- The role or session in hand, against the bus.
use Rattle.std.specs.Prelude.{◌≡◌, ℕ, Bool, true, false, Result, Ok, Err}
use Rattle.i3c_base.specs.declared.requests.Served.{Served}
use Rattle.i3c_base.specs.State.{State}
use Rattle.i3c_base.specs.declared.answers.Answer.{Answer}
use Rattle.i3c_handoff.specs.declared.faults.HandFault.{HandFault}
use Rattle.i3c_step.specs.declared.replies.ActiveStays.{ActiveStays}
use Rattle.i3c_step.specs.declared.replies.Refusal.{Refusal}
use Rattle.i3c_step.specs.declared.replies.Reply.{Reply}
use Rattle.i3c_bus.specs.declared.hand.Hand.{Hand}
use Rattle.i3c_bus.specs.declared.hand.Hand.TheVariants.{Role, Session}

-- the slot that holds it
abbrev pub holder_of : Hand → ℕ
holder_of (Role holder) = holder
holder_of (Session holder) = holder

-- the hand has a session
abbrev pub is_session : Hand → Bool
is_session (Role holder) = false
is_session (Session holder) = true

-- the active controller holds it, and it is a session if and only if the bus has one open
abbrev pub HandFits : Hand → State → Type 0
HandFits hand st = (holder_of hand ≡ st.active) × (st.in_session ≡ is_session hand)

-- the hand after `open_daa`
abbrev pub opened_hand : Result (ℕ × Served) (ℕ × ActiveStays) → Hand
opened_hand (Ok opened) = Hand.Session opened.0
opened_hand (Err refused) = Hand.Role refused.0

-- why the role isn't offered, among all refusals
abbrev pub hand_refusal : HandFault → Refusal
hand_refusal HandFault.ActiveStays = Refusal.ActiveStays
hand_refusal HandFault.IsActive = Refusal.IsActive
hand_refusal HandFault.NotCapable = Refusal.NotCapable
hand_refusal HandFault.ListStale = Refusal.ListStale
hand_refusal (HandFault.NoAnswer a) = Refusal.NoAnswer a

-- the reply to a handover that isn't granted: a frame that nobody answered has served this, the others aren't sent
abbrev pub unhanded : Served → HandFault → Reply
unhanded served (HandFault.NoAnswer a) = Reply.Framed (record { served = served; answer = Answer.NoAnswer a })
unhanded served fault = Reply.Refused (hand_refusal fault)

-- the reply that the answer of `hand_over` is
abbrev pub handed_reply : Result (ℕ × Served) (ℕ × Served × HandFault) → Reply
handed_reply (Ok handed) = Reply.Handed handed.1
handed_reply (Err kept) = unhanded kept.1 kept.2

-- the hand after `hand_over`
abbrev pub handed_hand : Result (ℕ × Served) (ℕ × Served × HandFault) → Hand
handed_hand (Ok handed) = Hand.Role handed.0
handed_hand (Err kept) = Hand.Role kept.0
