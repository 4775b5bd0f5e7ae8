-- A report of a bus that was closed.
use Rattle.std.proofs.Common.{◌≡◌, ℕ, ◌+◌, ◌<◌, List, length, sum, Result, Ok, Err, ap, arith, sym, ◌∙◌, subst}
use Rattle.std.specs.Prelude.{IfOk}
use Rattle.i3c_base.specs.declared.range.TheConstants.{SLOTS}
use Rattle.i3c_base.specs.declared.requests.Record.{Record}
use Rattle.i3c_recorder.specs.declared.entry.Entry.{Entry}
use Rattle.i3c_stress.specs.declared.report.StressFault.{StressFault}
use Rattle.i3c_stress.specs.declared.report.StressReport.{StressReport}
use Rattle.i3c_stress.specs.Counting.{accepted_in, refused_in}
use Rattle.i3c_stress.specs.Devices.{DevicesPosted, HasEntered, HasPosted, raises_at}
use Rattle.i3c_stress.specs.Reporting.{CountsBus, IsOneSession, WasOfBus}

-- what the slots were found to have
pub posted_by : (devices posts : ℕ) (run : List Entry) → ((slot : ℕ) → 0 < slot → slot < devices + 1 → HasEntered slot run)
    → ((slot : ℕ) → slot < SLOTS → HasPosted devices posts slot (raises_at slot run)) → DevicesPosted devices posts run
posted_by devices posts run entered posted = record { entered = λ slot above within. entered slot above (omega (arith, within)); posted = posted }

-- the role counted the frames of one session before the tries, and one more for each afterwards, and the run has as many
pub counts_bus : (result : Result StressReport StressFault) (devices posts tried : ℕ) (taken lost kept left : ℕ) (before frames : ℕ) (run : List Entry) (records : List Record) (waiting : List ℕ)
    → IsOneSession before → frames ≡ before + tried → WasOfBus frames run records waiting
    → DevicesPosted devices posts run
    → taken ≡ accepted_in run → lost ≡ refused_in run → kept ≡ length records → left ≡ sum waiting
    → IfOk result (λ r. r.tried ≡ tried) → IfOk result (λ r. r.posted ≡ taken + lost) → IfOk result (λ r. r.turned_away ≡ lost)
    → IfOk result (λ r. r.recorded ≡ kept) → IfOk result (λ r. r.waiting ≡ left)
    → IfOk result (CountsBus devices posts)
counts_bus (Err why) devices posts tried taken lost kept left before frames run records waiting session more was by accepted refused recorded waits ofTried ofPosted ofRefused ofRecorded ofWaiting = tt
counts_bus (Ok r) devices posts tried taken lost kept left before frames run records waiting session more was by accepted refused recorded waits ofTried ofPosted ofRefused ofRecorded ofWaiting = record {
  run = run;
  records = records;
  by_slot = waiting;
  assigning = before;
  session = session;
  bus = subst (λ n. WasOfBus n run records waiting) (more ∙ ap (λ n. before + n) (sym ofTried)) was;
  by_devices = by;
  posted = ofPosted ∙ ap (λ n. n + lost) accepted ∙ ap (λ n. accepted_in run + n) refused;
  turned_away = ofRefused ∙ refused;
  recorded = ofRecorded ∙ recorded;
  waiting = ofWaiting ∙ waits;
}
