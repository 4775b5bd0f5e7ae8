-- The posts of a port over a whole run: how many were recorded, lost, or still wait.
use Rattle.std.specs.Prelude.{◌≡◌, ℕ, ◌+◌, ◌&&◌, List, [], ◌∷◌, ◌++◌, length, Option, Some, is_some, if◌then◌else◌}
use Rattle.rtrb.specs.Ring.{sent}
use Rattle.i3c_base.specs.declared.device.Setup.{Setup}
use Rattle.i3c_base.specs.declared.requests.Record.{Record}
use Rattle.i3c_base.specs.State.{Board, Device, IsStart, State, device_at}
use Rattle.i3c_step.specs.History.{AllDistinct, History, IsLegal, reached}
use Rattle.i3c_step.specs.History as history
use Rattle.i3c_step.specs.Stays.{is_attached, is_into, number_raised, recorded_in_stay}
use Rattle.i3c_recorder.specs.declared.entry.Entry.{Entry}
use Rattle.i3c_shared.specs.Closing.{Closes}
use Rattle.i3c_recorder.specs.KeptRuns.{events_of, replies_of}
use Rattle.i3c_shared.specs.Ports.{IsAt}
use Rattle.i3c_shared.specs.Raises.{raised_at}
use Rattle.i3c_shared.specs.Rings.{IsEndOf, ring_at}
use Rattle.i3c_shared.specs.Values.{HeldValue, KeptValue, PortValue}

-- the byte of a raise at the slot that was not accepted, if the entry is one
abbrev pub refused_at : ℕ → Entry → List (Option ℕ)
refused_at s e = if is_some (number_raised e.reply) then [] else raised_at s e.event

-- those bytes after one entry more: a port goes out by an accepted attachment
abbrev pub next_refused : ℕ → List (Option ℕ) → Entry → List (Option ℕ)
next_refused s bytes e = if is_attached e.reply && is_into s e.event then [] else bytes ++ refused_at s e

abbrev pub refused_from : ℕ → List (Option ℕ) → List Entry → List (Option ℕ)
refused_from s bytes [] = bytes
refused_from s bytes (e ∷ run) = refused_from s (next_refused s bytes e) run

-- the bytes of the refused raises of a slot's port: those since the attachment that gave it, or since the start
abbrev pub refused_of : ℕ → List Entry → List (Option ℕ)
refused_of s run = refused_from s [] run

-- a legal history of this run, from a start to this state, in which devices present together always had distinct identities
pub record IsHistoryOf (run : List Entry) (new start : State) (h : History) : Type 0 where
  pub main : Setup
  pub board : Board
  pub begun : IsStart main board start
  pub legal : IsLegal start h
  pub distinct : AllDistinct start h
  pub events : history.events_of h ≡ events_of run
  pub replies : history.replies_of h ≡ replies_of run
  pub reached : reached start h ≡ new

-- the posts of each port handed in to a close, if its ring was here and its device is still there, are the refused raises,
-- those that were recorded in the device's stay, and those that wait
abbrev pub PostsAreAccountedFor : Type 0
PostsAreAccountedFor = (old : KeptValue) (role : Option HeldValue) (ports : List PortValue) (run : List Entry) (records : List Record) (waiting : List ℕ) (closes : Closes old role ports run records waiting)
    → (start : State) (h : History) → IsHistoryOf run closes.takes.end.state start h
    → (k : ℕ) (p : PortValue) (d : Device) → IsAt ports k p → IsEndOf p (ring_at old.log.rings p.slot) → device_at closes.takes.end.state p.slot ≡ Some d
    → length (sent p.producer) ≡ length (refused_of p.slot run) + length (recorded_in_stay start h p.slot) + length d.waiting
