use Rattle.std.proofs.Common.{ℕ, Result, Ok, Err}
use Rattle.std.specs.Result.{OnOk}
use Rattle.i3c_tracks.proofs.body.Body.add_mark.Goals as goal

-- what holds for each number holds for this one
of_each : {E : Type 0} → (P : ℕ → Type 0) → (result : Result (Unit {0}) E) → (number : ℕ) → OnOk result ((n : ℕ) → P n) → OnOk result (P number)
of_each P (Ok done) number each = each number
of_each P (Err e) number each = tt

pub returns-in-Anywhere : goal.returns-in-Anywhere
returns-in-Anywhere c = rw c.in-Anywhere.is (c.add_risk.ensures c.args.number)

pub returns-in-Track : goal.returns-in-Track
returns-in-Track c = rw c.in-Track.is (of_each _ c.begin_track.result c.args.number c.begin_track.ensures)

pub returns-in-Close : goal.returns-in-Close
returns-in-Close c = rw c.in-Close.is (of_each _ c.close.result c.args.number c.close.ensures)
