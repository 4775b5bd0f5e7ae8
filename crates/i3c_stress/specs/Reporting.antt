-- What a report says of a closed bus.
use Rattle.std.specs.Prelude.{◌≡◌, ℕ, ◌+◌, ◌≤◌, List, length, sum}
use Rattle.i3c_base.specs.declared.range.TheConstants.{SLOTS}
use Rattle.i3c_base.specs.State.{State}
use Rattle.i3c_base.specs.declared.requests.Record.{Record}
use Rattle.i3c_recorder.specs.KeptRuns.{IsLegalTo}
use Rattle.i3c_recorder.specs.declared.entry.Entry.{Entry}
use Rattle.i3c_shared.specs.Books.{frames_in}
use Rattle.i3c_shared.specs.Closing.{AreWaiting}
use Rattle.i3c_stress.specs.declared.report.StressReport.{StressReport}
use Rattle.i3c_stress.specs.Counting.{accepted_in, refused_in}
use Rattle.i3c_stress.specs.Devices.{DevicesPosted}

-- the frames of one session: its opening, one to sixty-four rounds, and its end
abbrev pub IsOneSession : ℕ → Type 0
IsOneSession frames = (3 ≤ frames) × (frames ≤ SLOTS + 2)

-- the run is legal, has this number of frames, and leads to a state that has these records and these numbers of waiting
-- interrupts
pub record WasOfBus (frames : ℕ) (run : List Entry) (records : List Record) (waiting : List ℕ) : Type 0 where
  pub end : State
  pub legal : IsLegalTo run end
  pub framed : frames_in run ≡ frames
  pub recorded : records ≡ end.records
  pub waits : AreWaiting waiting end

-- the report counts a bus that was closed: its run's raises, its records, and the interrupts that wait. The run has the frames of
-- one session, and one for each try. In it each device posted, under an identity of its own
pub record CountsBus (devices posts : ℕ) (report : StressReport) : Type 0 where
  pub run : List Entry
  pub records : List Record
  pub by_slot : List ℕ
  pub assigning : ℕ
  pub session : IsOneSession assigning
  pub bus : WasOfBus (assigning + report.tried) run records by_slot
  pub by_devices : DevicesPosted devices posts run
  pub posted : report.posted ≡ accepted_in run + refused_in run
  pub turned_away : report.turned_away ≡ refused_in run
  pub recorded : report.recorded ≡ length records
  pub waiting : report.waiting ≡ sum by_slot
