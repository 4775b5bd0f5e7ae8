-- When a bus may be closed, and what is left of it.
use Rattle.std.specs.Prelude.{◌≡◌, ℕ, ◌<◌, Bool, true, false, ◌||◌, ◌&&◌, List, length, slice_index, Option, is_none, MatchOption, ⊤}
use Rattle.i3c_base.specs.declared.range.TheConstants.{SLOTS}
use Rattle.i3c_base.specs.declared.requests.Record.{Record}
use Rattle.i3c_base.specs.State.{State, device_at}
use Rattle.i3c_bus.specs.Readings.{waiting_of}
use Rattle.i3c_recorder.specs.declared.entry.Entry.{Entry}
use Rattle.i3c_shared.specs.declared.faults.CloseFault.{CloseFault}
use Rattle.i3c_recorder.specs.KeptRuns.{IsLegalTo}
use Rattle.i3c_shared.specs.Books.{frames_in}
use Rattle.i3c_shared.specs.Ports.{AllPosted, IsFirstMissing, NoneMissing}
use Rattle.i3c_shared.specs.Rings.{AllLooked}
use Rattle.i3c_shared.specs.Taking.{Stays, TakesUp}
use Rattle.i3c_shared.specs.Values.{HeldValue, KeptValue, Log, PortValue, Rings}

-- nobody handed a role in and none is parked, or it is away in an open session
abbrev pub is_role_out : KeptValue → Option HeldValue → Bool
is_role_out k role = k.log.state.in_session || (is_none role && is_none k.parked)

-- the numbers of the interrupts that wait on the bus, by slot
pub record AreWaiting (waiting : List ℕ) (st : State) : Type 0 where
  pub slots : length waiting ≡ SLOTS
  pub each : (s : ℕ) → s < SLOTS → slice_index waiting s ≡ waiting_of (device_at st s)

-- posts are taken up for the last time: the run is legal and leads to a state that has these records and these numbers of
-- waiting interrupts
pub record TakesLast (old : Log) (run : List Entry) (records : List Record) (waiting : List ℕ) : Type 0 where
  pub seen : Rings
  pub looked : AllLooked old.rings seen
  pub end : Log
  pub takes : TakesUp old seen end
  pub legal : IsLegalTo end.run end.state
  pub ran : run ≡ end.run
  pub recorded : records ≡ end.state.records
  pub waits : AreWaiting waiting end.state

-- the run leads to this state, in which the role that was handed in is the active controller's, and it counts the run's frames
abbrev pub IsCounted : Option HeldValue → List Entry → State → Type 0
IsCounted role run end = MatchOption role ⊤ (λ held. (held.holder ≡ end.active) × (held.frames ≡ frames_in run))

-- an accepted close: the role that was handed in is this bus's, and the raises of each port with its ring here are all that
-- it posted
pub record Closes (old : KeptValue) (role : Option HeldValue) (ports : List PortValue) (run : List Entry) (records : List Record) (waiting : List ℕ) : Type 0 where
  pub role_in : is_role_out old role ≡ false
  pub ports_in : NoneMissing old.log.rings ports
  pub takes : TakesLast old.log run records waiting
  pub held : IsCounted role run takes.end.state
  pub all : AllPosted old.log.rings ports run

-- why it is refused, and that nothing changed
abbrev pub RefusesClose : KeptValue → Option HeldValue → List PortValue → CloseFault → KeptValue → Type 0
RefusesClose old role ports CloseFault.RoleOut new = (is_role_out old role ≡ true) × (new ≡ old)
RefusesClose old role ports (CloseFault.PortOut s) new =
    (is_role_out old role ≡ false) × IsFirstMissing old.log.rings ports s × (new ≡ old)
RefusesClose old role ports CloseFault.OutOfMemory new =
    (is_role_out old role ≡ false) × NoneMissing old.log.rings ports × Stays old.log new.log × (new.parked ≡ old.parked)
