-- What contracts see of a bus that keeps its run.
use Rattle.std.specs.Prelude.{ℕ, Bool, List}
use Rattle.i3c_base.specs.State.{State}
use Rattle.i3c_recorder.specs.declared.entry.Entry.{Entry}

-- a kept run, and the room that there is for more entries
pub record Story : Type 0 where
  pub entries : List Entry
  pub spare : ℕ

-- a bus with the run that led to it from a start, and the room for one more record and for more entries
pub record Recorded : Type 0 where
  pub start : State
  pub state : State
  pub run : List Entry
  pub room : Bool
  pub spare : ℕ
