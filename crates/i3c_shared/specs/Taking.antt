-- What a call takes up, and the event that it makes then.
use Rattle.std.specs.Prelude.{◌≡◌, ℕ, ◌≤◌, ◌*◌, ◌+◌, true, List, [], ◌∷◌, ◌++◌, if◌then◌else◌}
use Rattle.i3c_base.specs.declared.range.TheConstants.{SLOTS}
use Rattle.i3c_step.specs.declared.events.Event.{Event}
use Rattle.i3c_step.specs.declared.events.Event.TheVariants.{Attach, Raise}
use Rattle.i3c_step.specs.declared.replies.Reply.{Reply}
use Rattle.i3c_step.specs.Step.{Step}
use Rattle.i3c_recorder.specs.declared.entry.Entry.{Entry}
use Rattle.i3c_shared.specs.declared.port.TheConstants.{POSTS}
use Rattle.i3c_recorder.specs.KeptRuns.{IsBegun, Leads, events_of}
use Rattle.i3c_step.specs.Stays.{is_attached}
use Rattle.i3c_shared.specs.Rings.{AllDrained, AllFew, AllLooked, Fits, put_out, raises_in}
use Rattle.i3c_recorder.specs.Values.{Recorded}
use Rattle.i3c_shared.specs.Values.{BooksValue, IntakeValue, Log, Reading, Rings}
use Rattle.i3c_shared.specs.Books.{books_of}

-- the run grows by these events, and leads on
pub record Adds (old : Recorded) (events : List Event) (new : Recorded) : Type 0 where
  pub added : List Entry
  pub same : events_of added ≡ events
  pub leads : Leads old.state added new.state
  pub run : new.run ≡ old.run ++ added
  pub start : new.start ≡ old.start

-- the posts that were seen are taken up, in the order of the slots, each as one raise: the run grows by them
pub record TakesUp (old : Log) (seen : Rings) (new : Log) : Type 0 where
  pub few : AllFew seen
  pub left : AllDrained seen new.rings
  pub raises : List Entry
  pub taken : events_of raises ≡ raises_in seen
  pub leads : Leads old.state raises new.state
  pub run : new.run ≡ old.run ++ raises
  pub start : new.start ≡ old.start

-- one event with its reply
pub record Makes (old : Log) (event : Event) (reply : Reply) (new : Log) : Type 0 where
  pub step : Step old.state event reply new.state
  pub run : new.run ≡ old.run ++ record { event = event; reply = reply } ∷ []
  pub start : new.start ≡ old.start
  pub rings : new.rings ≡ old.rings

-- what is seen of the rings is taken up, at most eight posts of each, in the order of the slots, and then comes the event
pub record Grows (old : Log) (event : Event) (reply : Reply) (new : Log) : Type 0 where
  pub seen : Rings
  pub looked : AllLooked old.rings seen
  pub mid : Log
  pub takes : TakesUp old seen mid
  pub makes : Makes mid event reply new

-- all is as it was; of the rings more may be known
pub record Stays (old new : Log) : Type 0 where
  pub start : new.start ≡ old.start
  pub state : new.state ≡ old.state
  pub run : new.run ≡ old.run
  pub rings : AllLooked old.rings new.rings

-- there is room for all that a call may take up, for its own event, and for a record
abbrev pub IsReady : IntakeValue → Type 0
IsReady k = (SLOTS * POSTS + 1 ≤ k.spare) × (k.room ≡ true)

-- the event is neither a raise nor an attachment
abbrev pub IsOther : Event → Type 0
IsOther (Attach s setup) = ⊥
IsOther (Raise s byte) = ⊥
IsOther event = Unit {0}

-- after an accepted attachment the slot's port is out, with this ring
abbrev pub PutsOut : ℕ → Reading → Reply → Log → Log → Type 0
PutsOut s ring reply old new = new ≡ record old { rings = if is_attached reply then put_out s ring old.rings else old.rings }

-- The run is legal and leads to the bus. What was received from the ring of each port that is out are the bytes of its
-- raises. The three books have the active slot, whether a session is open (1) or not (0), and how many of the run's events
-- are frames.
pub record IsKept (log : Log) (books : BooksValue) : Type 0 where
  pub begun : IsBegun log.start
  pub leads : Leads log.start log.run log.state
  pub fits : Fits log.rings log.run
  pub booked : books ≡ books_of log
