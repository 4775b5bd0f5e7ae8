-- The byte was ended, or nobody was left to end it.
use Rattle.std.proofs.Common.{◌≡◌, ◌∙◌, true, is_some, length, ap, subst, sym}
use Rattle.std.proofs.lemmas.Bool.{both_ways}
use Rattle.i3c_base.specs.declared.requests.Request.TheVariants.{Interrupt}
use Rattle.i3c_base.specs.Cutting.{lost_by}
use Rattle.i3c_base.specs.State.{population}
use Rattle.i3c_ibi.specs.Driving.{HaveBytes}
use Rattle.i3c_ibi.proofs.ServingLaws.{due_served, have_bytes, seen_drives, torn_served, unseen_drives}
use Rattle.i3c_ibi.proofs.serving.interrupt.Goals as goal
use Rattle.i3c_ibi.proofs.serving.interrupt.Goals.{in_default-via-in-Some+else-not-ended, in_default-via-in_default}

pub returns-in-Some-clause-served : goal.returns-in-Some-clause-served
returns-in-Some-clause-served c st same are given fits first known =
    let bytes = subst (HaveBytes (population st) c.args.at) (sym c.byte_is_due.ensures) (have_bytes st c.args.at c.args.table.now.given given fits) in
    torn_served st c.args.cuts.now c.args.at c.in-Some.byte c.reading-record.result c.accept.new.self fits first known (c.reading-record.ensures.read st same are bytes) c.in-Some.is
    (λ some. both_ways _ c.if-not-ended.true (c.outlasts-ended.ensures.1 (unseen_drives st (Interrupt c.args.at) (lost_by c.args.cuts.now 9) c.args.drivers are (ap length same ∙ c.requires.driven.long) some)))
    (c.accept.ensures (population st) same are)

pub returns-in_default-clause-served : goal.returns-in_default-clause-served
returns-in_default-clause-served c st same are given fits first known =
    let bytes = subst (HaveBytes (population st) c.args.at) (sym c.byte_is_due.ensures) (have_bytes st c.args.at c.args.table.now.given given fits) in
    due_served st c.args.cuts.now c.args.at c.reading-record.result c.accept.new.self fits first known (c.reading-record.ensures.read st same are bytes)
    (λ b. seen_drives st (Interrupt c.args.at) (lost_by c.args.cuts.now 9) c.args.drivers are (c.outlasts-ended.ensures.0 (ended b)))
    (c.accept.ensures (population st) same are)
  where
    ended : is_some c.reading-record.result.byte ≡ true → c.outlasts-ended.result ≡ true
    ended b = elim c.in_default.branch [
      | in_default-via-in-Some+else-not-ended w ↦ w.if-not-ended.false
      | in_default-via-in_default w ↦ absurd (both_ways _ (ap is_some w.in_default.is) b)
    ]
