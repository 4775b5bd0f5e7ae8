-- Which slots hold devices, which is the active controller's, and whether a session is open: what a step may change of it.
use Rattle.std.specs.Prelude.{◌≡◌, ◌⊎◌, ℕ, Bool, true, false}
use Rattle.i3c_base.specs.declared.device.Setup.{Setup}
use Rattle.i3c_base.specs.Cutting.{CutList}
use Rattle.i3c_base.specs.Frames.{IsWillingAt}
use Rattle.i3c_base.specs.State.{IsPresent, State}
use Rattle.i3c_step.specs.declared.events.Event.{Event}
use Rattle.i3c_step.specs.declared.replies.Reply.{Reply}

-- whether a session is open after this reply: an opening opens one, an end ends it, and the other replies leave it as it is
abbrev pub session_after : Reply → Bool → Bool
session_after (Reply.Opened served) was = true
session_after Reply.Ended was = false
session_after _ was = was

-- a device was attached in slot s
abbrev pub HasAttached : Event → Reply → ℕ → Type 0
HasAttached event reply s = (setup : Setup) × (event ≡ Event.Attach s setup) × (reply ≡ Reply.Attached)

-- the role was handed over
abbrev pub is_handed : Reply → Bool
is_handed (Reply.Handed served) = true
is_handed _ = false

-- the role has moved to a willing device at the address that the event names, which is the active controller then
abbrev pub HasMoved : State → Event → State → Type 0
HasMoved old event new = (to : ℕ) × (cuts : CutList) × (event ≡ Event.HandOver to cuts) × IsWillingAt old to new.active

-- the active controller's slot changes by a granted handover alone, a session is opened and ended by these answers alone,
-- and a device comes into a slot by an accepted attachment there alone
pub record KeepsSlots (old : State) (event : Event) (reply : Reply) (new : State) : Type 0 where
  pub active : is_handed reply ≡ false → new.active ≡ old.active
  pub moved : is_handed reply ≡ true → HasMoved old event new
  pub session : new.in_session ≡ session_after reply old.in_session
  pub enters : (s : ℕ) → IsPresent new s → IsPresent old s ⊎ HasAttached event reply s
