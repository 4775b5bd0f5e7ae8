-- What happened on a bus since its start, state by state.
use Rattle.std.specs.Prelude.{◌≡◌, ℕ, true, ◌⊎◌, List, [], ◌∷◌, ◌++◌, Some, ⊤}
use Rattle.i3c_base.specs.declared.device.Waiting.{Waiting}
use Rattle.i3c_base.specs.State.{Device, HasDistinctIdentities, IsPresent, State, device_at}
use Rattle.i3c_step.specs.declared.events.Event.{Event}
use Rattle.i3c_step.specs.declared.replies.Reply.{Reply}
use Rattle.i3c_step.specs.Step.{Step}

-- an event, its reply, and the state after it
pub record Moment : Type 0 where
  pub event : Event
  pub reply : Reply
  pub after : State

-- what happened since the start, the newest first
abbrev pub History : Type 0
History = List Moment

-- the state that a history leads to
abbrev pub reached : State → History → State
reached start [] = start
reached start (m ∷ earlier) = m.after

-- each moment is a step from the state before it
abbrev pub IsLegal : State → History → Type 0
IsLegal start [] = ⊤
IsLegal start (m ∷ earlier) = Step (reached start earlier) m.event m.reply m.after × IsLegal start earlier

-- in each state of the history, devices that are present together have distinct identities
abbrev pub AllDistinct : State → History → Type 0
AllDistinct start [] = HasDistinctIdentities start
AllDistinct start (m ∷ earlier) = HasDistinctIdentities m.after × AllDistinct start earlier

-- the events of a history, the oldest first
abbrev pub events_of : History → List Event
events_of [] = []
events_of (m ∷ earlier) = events_of earlier ++ m.event ∷ []

-- their replies, the oldest first
abbrev pub replies_of : History → List Reply
replies_of [] = []
replies_of (m ∷ earlier) = replies_of earlier ++ m.reply ∷ []

-- the moment is the raise of w in slot s, accepted while its device had an address and its interrupts were enabled
pub record IsAccepted (before : State) (m : Moment) (s : ℕ) (w : Waiting) : Type 0 where
  pub event : m.event ≡ Event.Raise s w.byte
  pub reply : m.reply ≡ Reply.Raised w.number
  pub device : Device
  pub there : device_at before s ≡ Some device
  pub address : ℕ
  pub addressed : device.address ≡ Some address
  pub enabled : device.kinds.interrupt ≡ true

-- w was raised in the present stay of the device in slot s
abbrev pub WasRaised : State → History → ℕ → Waiting → Type 0
WasRaised start [] s w = ⊥
WasRaised start (m ∷ earlier) s w =
    IsAccepted (reached start earlier) m s w ⊎ (IsPresent (reached start earlier) s × IsPresent m.after s × WasRaised start earlier s w)
