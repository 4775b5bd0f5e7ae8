-- Serving the first request of a frame, as the controller sees it on the wire.
use Rattle.std.specs.Prelude.{◌≡◌, ℕ, suc, ◌+◌, true, length, List, Option, is_some, if◌then◌else◌, IfSome, ⊤}
use Rattle.i3c_base.specs.declared.requests.Request.TheVariants.{Interrupt, Join, Role}
use Rattle.i3c_base.specs.declared.requests.Served.{Served}
use Rattle.i3c_base.specs.Cutting.{CutList, lost_by}
use Rattle.i3c_base.specs.State.{Device, State, entry_at, population}
use Rattle.i3c_base.specs.Serve.{IsFirst, IsWordBits, NoneAsks, Serves, SomeDrives, byte_due, given_for, recorded}
use Rattle.i3c_ibi.specs.Driving.{HaveBytes, IsByteRead}
use Rattle.i3c_ibi.specs.declared.serving.Reading.{Reading}
use Rattle.i3c_ibi.specs.declared.serving.Reading.TheVariants.{Quiet, Refused, Joined, WantsRole, Due, Torn}

-- the interrupt at a driver's front has a mandatory byte exactly if the table says so
abbrev pub FitsTable : State → Type 0
FitsTable st = (a : ℕ) → HaveBytes (population st) a (byte_due (entry_at st a))

-- what a frame served, where `count` records were in the log before
abbrev pub served_as : ℕ → Reading → Served
served_as count Quiet = Served.Quiet
served_as count (Refused r) = Served.Refused
served_as count Joined = Served.Joining
served_as count (WantsRole a) = Served.WantsRole a
served_as count (Due record_due) = Served.Recorded (suc count)
served_as count (Torn a byte) = Served.Torn

-- the record of the reading is appended
abbrev pub kept : Reading → State → State
kept (Due r) st = recorded r st
kept Quiet st = st
kept (Refused r) st = st
kept Joined st = st
kept (WantsRole a) st = st
kept (Torn a byte) st = st

-- the bits of the mandatory word that was read
abbrev pub word_bits : Reading → ℕ
word_bits (Due r) = if is_some r.byte then 9 else 0
word_bits (Torn a byte) = 9
word_bits Quiet = 0
word_bits (Refused r) = 0
word_bits Joined = 0
word_bits (WantsRole a) = 0

-- the request that came first
abbrev pub IsRequestOf : State → Reading → Type 0
IsRequestOf st Quiet = NoneAsks st
IsRequestOf st (Refused r) = IsFirst st r
IsRequestOf st Joined = IsFirst st Join
IsRequestOf st (WantsRole a) = IsFirst st (Role a)
IsRequestOf st (Due r) = IsFirst st (Interrupt r.at)
IsRequestOf st (Torn a byte) = IsFirst st (Interrupt a)

-- T was read as 0 where a byte is recorded: a driver that isn't lost by then ended it
abbrev pub IsEnded : State → CutList → Reading → Type 0
IsEnded st cuts (Due r) = is_some r.byte ≡ true → SomeDrives (population st) (Interrupt r.at) (lost_by cuts 9)
IsEnded st cuts _ = ⊤

-- the mandatory byte, recorded or torn, is the one that the drivers put on the lines
abbrev pub ReadsByte : State → CutList → Reading → Type 0
ReadsByte st cuts (Due r) = IfSome r.byte (IsByteRead st cuts r.at)
ReadsByte st cuts (Torn a byte) = IsByteRead st cuts a byte
ReadsByte st cuts _ = ⊤

-- serving, whatever bits of the frame follow, with the word that was read for it, its request, its byte, and T as it was read
pub record IsServing (st : State) (cuts : CutList) (reading : Reading) (devices : List (Option Device)) : Type 0 where
  pub serves : (rest : ℕ) → Serves st (given_for (served_as (length st.records) reading)) (lost_by cuts (word_bits reading + rest)) (served_as (length st.records) reading) (kept reading (record st { devices = devices }))
  pub word : IsWordBits st (served_as (length st.records) reading) (word_bits reading)
  pub first : IsRequestOf st reading
  pub ended : IsEnded st cuts reading
  pub read : ReadsByte st cuts reading
