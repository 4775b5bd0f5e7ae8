-- What contracts see of the bus that threads share.
use Rattle.std.specs.Prelude.{ℕ, Bool, List, Option}
use Rattle.std.specs.declared.alloc.Global.{Global}
use Rattle.rtrb.specs.declared.consumer.Consumer.{Consumer}
use Rattle.rtrb.specs.declared.producer.Producer.{Producer}
use Rattle.rtrb.specs.declared.AnyItems.{AnyItems}
use Rattle.i3c_base.specs.State.{State}
use Rattle.i3c_recorder.specs.declared.entry.Entry.{Entry}

-- the end of a ring that posts are taken from, and the end that they go into
abbrev pub Reading : Type 0
Reading = Consumer (Option ℕ) Global AnyItems

abbrev pub Writing : Type 0
Writing = Producer (Option ℕ) Global AnyItems

-- the ring of each port that is out, by slot
abbrev pub Rings : Type 0
Rings = List (Option Reading)

-- a bus with its run, and the rings that posts are taken from
pub record Log : Type 0 where
  pub start : State
  pub state : State
  pub run : List Entry
  pub rings : Rings

-- the same, with the room for one more record and for more entries
pub record IntakeValue : Type 0 where
  pub log : Log
  pub room : Bool
  pub spare : ℕ

-- the amounts in the books of the three ledgers, or of all shares of them: the active slot, 1 while a session is open, and
-- the number of frame events
pub record BooksValue : Type 0 where
  pub active : ℕ
  pub session : ℕ
  pub frames : ℕ

-- a role or session in hand: the slot that holds it, and the number of frame events in its bus's run
pub record HeldValue : Type 0 where
  pub holder : ℕ
  pub frames : ℕ

-- the state under the lock: the log, the books, and the parked role
pub record KeptValue : Type 0 where
  pub log : Log
  pub books : BooksValue
  pub parked : Option HeldValue

-- a port: its slot, and its end of its ring
pub record PortValue : Type 0 where
  pub slot : ℕ
  pub producer : Writing
