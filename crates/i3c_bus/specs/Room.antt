-- Room for records.
use Rattle.std.specs.Prelude.{◌≡◌, ◌≢◌, true, None}
use Rattle.i3c_base.specs.State.{Held}
use Rattle.i3c_step.specs.declared.replies.Reply.{Reply}
use Rattle.i3c_step.specs.Serving.{recorded_at}

-- while there is room nothing is answered for want of memory, and only an appended record ends it
pub record KeepsRoom (old new : Held) (reply : Reply) : Type 0 where
  pub enough : old.room ≡ true → reply ≢ Reply.OutOfMemory
  pub lasts : old.room ≡ true → recorded_at reply ≡ None → new.room ≡ true

-- what a device does by itself leaves the active controller, the session and the room
pub record StaysAround (old new : Held) : Type 0 where
  pub active : new.state.active ≡ old.state.active
  pub session : new.state.in_session ≡ old.state.in_session
  pub room : new.room ≡ old.room

-- the state is as it was
abbrev pub IsUntouched : Held → Held → Type 0
IsUntouched old new = new.state ≡ old.state
