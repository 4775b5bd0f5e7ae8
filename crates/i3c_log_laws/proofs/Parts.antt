-- Behind records that are gone, the frames' own parts and the rounds of an assignment go on as without them.
use Rattle.std.proofs.Common.{ℕ, List, Option, Some, None, ap, inl, inr}
use Rattle.i3c_base.specs.declared.answers.Answer.{Answer}
use Rattle.i3c_base.specs.declared.answers.RoundReply.{RoundReply}
use Rattle.i3c_base.specs.declared.datum.Datum.{Datum}
use Rattle.i3c_base.specs.declared.datum.Direction.{Direction}
use Rattle.i3c_base.specs.declared.requests.Record.{Record}
use Rattle.i3c_base.specs.Cutting.{CutList}
use Rattle.i3c_base.specs.Frames.{Gets, Hands, KeepsRole, Reads, Rekinds, SetsLength, SetsNew, SetsStatic, Writes}
use Rattle.i3c_base.specs.Numbers.{KindSet}
use Rattle.i3c_base.specs.Round.{Rounds}
use Rattle.i3c_base.specs.State.{State}
use Rattle.i3c_log_laws.specs.Behind.{behind}
use Rattle.i3c_log_laws.proofs.Serving.{GoesOn}

-- ENEC and DISEC
pub rekinds_behind : (gone : List Record) (to : Option ℕ) (f : KindSet → KindSet) (answer : Answer) → GoesOn gone (Rekinds to f answer)
rekinds_behind gone None f answer lost mid done h = (h.0, ap (behind gone) h.1)
rekinds_behind gone (Some a) f answer lost mid done h = elim h [ inl x ↦ inl (x.0, x.1, ap (behind gone) x.2) | inr x ↦ inr (x.0, x.1, ap (behind gone) x.2) ]

-- SETMWL and SETMRL
pub length_behind : (gone : List Record) (to : Option ℕ) (way : Direction) (most : ℕ) (answer : Answer) → GoesOn gone (SetsLength to way most answer)
length_behind gone None way most answer lost mid done h = (h.0, ap (behind gone) h.1)
length_behind gone (Some a) way most answer lost mid done h = elim h [ inl x ↦ inl (x.0, x.1, ap (behind gone) x.2) | inr x ↦ inr (x.0, x.1, ap (behind gone) x.2) ]

-- SETDASA
pub static_behind : (gone : List Record) (f new : ℕ) (answer : Answer) → GoesOn gone (SetsStatic f new answer)
static_behind gone f new answer lost mid done h = elim h [
  | inl x ↦ inl (x.0, x.1, (x.2.0, x.2.1, ap (behind gone) x.2.2))
  | inr x ↦ inr (x.0, x.1, ap (behind gone) x.2)
]

-- SETNEWDA
pub new_behind : (gone : List Record) (a new : ℕ) (answer : Answer) → GoesOn gone (SetsNew a new answer)
new_behind gone a new answer lost mid done h = elim h [ inl x ↦ inl (x.0, x.1, ap (behind gone) x.2) | inr x ↦ inr (x.0, x.1, ap (behind gone) x.2) ]

pub reads_behind : (gone : List Record) (a : ℕ) (answer : Answer) → GoesOn gone (Reads a answer)
reads_behind gone a (Answer.Bytes bytes) lost mid done h = (h.0, ap (behind gone) h.1)
reads_behind gone a (Answer.NoAnswer b) lost mid done h = (h.0, h.1, ap (behind gone) h.2)
reads_behind gone a Answer.NoEnd lost mid done h = (h.0, h.1, ap (behind gone) h.2)
reads_behind gone a Answer.Done lost mid done h = h

pub writes_behind : (gone : List Record) (a : ℕ) (bytes : List ℕ) (answer : Answer) → GoesOn gone (Writes a bytes answer)
writes_behind gone a bytes Answer.Done lost mid done h = (h.0, ap (behind gone) h.1)
writes_behind gone a bytes (Answer.NoAnswer b) lost mid done h = (h.0, h.1, ap (behind gone) h.2)
writes_behind gone a bytes Answer.NoEnd lost mid done h = h
writes_behind gone a bytes (Answer.Bytes read) lost mid done h = h

-- a datum that is asked for
pub gets_behind : (gone : List Record) (what : Datum) (a : ℕ) (answer : Answer) → GoesOn gone (Gets what a answer)
gets_behind gone what a (Answer.Bytes bytes) lost mid done h = (h.0, ap (behind gone) h.1)
gets_behind gone what a (Answer.NoAnswer b) lost mid done h = (h.0, h.1, ap (behind gone) h.2)
gets_behind gone what a Answer.NoEnd lost mid done h = (h.0, h.1, ap (behind gone) h.2)
gets_behind gone what a Answer.Done lost mid done h = h

-- a handover that is granted
pub hands_behind : (gone : List Record) (a : ℕ) → GoesOn gone (Hands a)
hands_behind gone a lost mid done h = (h.0, h.1, h.2, h.3, ap (behind gone) h.4)

-- an offer that nobody takes
pub keeps_behind : (gone : List Record) (a : ℕ) → GoesOn gone (KeepsRole a)
keeps_behind gone a lost mid done h = (h.0, ap (behind gone) h.1)

pub rounds_behind : (gone : List Record) (old : State) (cuts : CutList) (answer : RoundReply) (new : State) → Rounds old cuts answer new → Rounds (behind gone old) cuts answer (behind gone new)
rounds_behind gone old cuts RoundReply.NoAddress new h = (h.0, ap (behind gone) h.1)
rounds_behind gone old cuts RoundReply.Done new h = (h.0, h.1, ap (behind gone) h.2)
rounds_behind gone old cuts RoundReply.Nobody new h = (h.0, h.1, h.2, ap (behind gone) h.3)
rounds_behind gone old cuts (RoundReply.Assigned a i) new h = (h.0, h.1, h.2, ap (behind gone) h.3)
