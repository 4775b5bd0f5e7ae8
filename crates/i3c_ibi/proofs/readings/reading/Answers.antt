-- The byte of the fronts is read if they have one, and otherwise none.
use Rattle.std.proofs.Common.{◌≡◌, ◌∙◌, ap, sym, subst, is_some}
use Rattle.i3c_base.specs.declared.requests.Request.TheVariants.{Interrupt}
use Rattle.i3c_base.specs.State.{Population, population, with_active}
use Rattle.i3c_device.specs.Walks.{AreDrivers}
use Rattle.i3c_ibi.specs.Driving.{HaveBytes, IsReading}
use Rattle.i3c_ibi.proofs.ReadingLaws.{due_byte, no_byte}
use Rattle.i3c_ibi.proofs.readings.reading.Goals as goal
use Rattle.i3c_ibi.proofs.readings.reading.Goals.{else-due, then-due, Joined-due}

is_due : (c : Joined-due) (all : Population) → all.devices ≡ c.args.devices.now → AreDrivers all (Interrupt c.args.at) c.args.drivers → HaveBytes all c.args.at c.args.due → is_some c.fronts_read-read.result.byte ≡ c.args.due
is_due c all same are fits =
    due_byte all c.args.cuts.now c.args.at c.args.due c.fronts_read-read.result fits
    (λ st here at. c.fronts_read-read.ensures st (here ∙ same) (subst (λ them. AreDrivers them (Interrupt c.args.at) c.args.drivers) (λ t. with_active (sym here t) (sym at t)) are))

pub returns-clause-read : goal.returns-clause-read
returns-clause-read c st same are fits =
    let read : IsReading st c.args.cuts.now c.args.at c.fronts_read-read.result = c.fronts_read-read.ensures st same are in
    elim c.if-due.branch [
      | then-due w ↦ rw w.result-is read
      | else-due w ↦ rw (w.result-is, ← no_byte c.fronts_read-read.result.byte (is_due c (population st) same are fits ∙ w.if-due.false)) read
    ]

pub returns-clause-due : goal.returns-clause-due
returns-clause-due c all same are fits = elim c.if-due.branch [
  | then-due w ↦ ap is_some w.result-is ∙ is_due c all same are fits
  | else-due w ↦ ap is_some w.result-is ∙ sym w.if-due.false
]
