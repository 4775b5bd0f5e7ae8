-- The devices of a stress run: who they are, and how often each posted.
use Rattle.std.specs.Prelude.{◌≡◌, ℕ, ◌+◌, ◌<◌, ◌≤◌, ◌==◌, min, Bool, true, false, List, count_by, slice_get, Option, Some, None}
use Rattle.i3c_base.specs.declared.device.Setup.{Setup}
use Rattle.i3c_base.specs.declared.identity.Identity.{Identity}
use Rattle.i3c_base.specs.declared.range.TheConstants.{SLOTS}
use Rattle.i3c_recorder.specs.declared.entry.Entry.{Entry}
use Rattle.i3c_shared.specs.declared.port.TheConstants.{POSTS}
use Rattle.i3c_step.specs.declared.events.Event.{Event}
use Rattle.i3c_step.specs.declared.replies.Reply.{Reply}

-- the identity of the device of a slot: each has a PID of its own, BCR 06 and DCR 44
abbrev pub identity_at : ℕ → Identity
identity_at slot = record { pid = 0x020400000100 + slot; bcr = record { 0 = 0x06 }; dcr = record { 0 = 0x44 } }

-- the entry is the accepted attachment of the slot's device
abbrev pub IsEntrance : ℕ → Entry → Type 0
IsEntrance slot e = (setup : Setup) × (e.event ≡ Event.Attach slot setup) × (e.reply ≡ Reply.Attached) × (setup.identity ≡ identity_at slot)

-- the slot's device entered the bus, under its identity
abbrev pub HasEntered : ℕ → List Entry → Type 0
HasEntered slot run = (place : ℕ) × (e : Entry) × (slice_get run place ≡ Some e) × IsEntrance slot e

-- the slot whose device raises an interrupt, if the event is one
abbrev pub raising : Event → Option ℕ
raising (Event.Raise slot byte) = Some slot
raising event = None

-- it is this slot
abbrev pub is_at : ℕ → Option ℕ → Bool
is_at slot None = false
is_at slot (Some raised) = slot == raised

-- the entry is a raise of the slot's device
abbrev pub is_raise_at : ℕ → Entry → Bool
is_raise_at slot e = is_at slot (raising e.event)

-- the number of raises of a slot's device in a run
abbrev pub raises_at : ℕ → List Entry → ℕ
raises_at slot run = count_by (is_raise_at slot) run

-- a number of raises of a slot: of a device it is at most that of its tries, and the first eight of these are among them. The
-- devices have the slots from 1 on
abbrev pub HasPosted : ℕ → ℕ → ℕ → ℕ → Type 0
HasPosted devices posts slot raises =
    (0 < slot → slot ≤ devices → (min posts POSTS ≤ raises) × (raises ≤ posts)) × ((slot ≡ 0) → raises ≡ 0) × (devices < slot → raises ≡ 0)

-- each device has entered the bus under an identity of its own and has posted, and nobody else has posted
pub record DevicesPosted (devices posts : ℕ) (run : List Entry) : Type 0 where
  pub entered : (slot : ℕ) → 0 < slot → slot ≤ devices → HasEntered slot run
  pub posted : (slot : ℕ) → slot < SLOTS → HasPosted devices posts slot (raises_at slot run)
