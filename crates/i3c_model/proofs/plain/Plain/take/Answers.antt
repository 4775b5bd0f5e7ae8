use borrow.Author.Tests.{tests}
use Rattle.std.proofs.Common.{◌≡◌, Bool, true, false, not, inl, inr, sym, refl, rules, ◌∙◌}
use Rattle.std.proofs.lemmas.Bool.{false≢true}
use Rattle.i3c_base.specs.Cutting.{lost_by}
use Rattle.i3c_model.proofs.Framing.{not_torn}
use Rattle.i3c_model.proofs.Stepping.{lost_is}
use Rattle.i3c_model.proofs.plain.Plain.take.Goals as goal
use Rattle.i3c_model.proofs.plain.Plain.take.Goals.{else-eq-via-then-eq+else-may_tear, else-eq-via-else-eq, else-is_byte_due, then-is_byte_due}

not_false : (b : Bool) → not b ≡ false → b ≡ true
not_false true h = refl
not_false false h = sym h

pub returns-clause-chosen : goal.returns-clause-chosen
returns-clause-chosen c = λ policy is. not_torn c.args.self.now policy (lost_by c.args.cuts.now c.args.last) c.args.at c.requires.first (elim c.else-eq.branch [
  | else-eq-via-then-eq+else-may_tear w ↦ elim c.if-is_byte_due.branch [
    | then-is_byte_due v ↦ inr (v.is_driver_left.ensures.0 (not_false v.is_driver_left.result (sym v.may_tear-is ∙ w.if-may_tear.false)))
    | else-is_byte_due v ↦ inl (sym c.is_byte_due.ensures ∙ v.if-is_byte_due.false)
  ]
  | else-eq-via-else-eq w ↦ absurd (false≢true (sym (sym c.eq.ensures ∙ w.if-eq.false) ∙ lost_is c.args.choice is))
])

pub returns-then-may_tear-clause-serves : goal.returns-then-may_tear-clause-serves
returns-then-may_tear-clause-serves c = λ policy accepted. record { at = c.args.at; first = c.requires.first; accepted = accepted; due = search (tests, rules); gone = λ s driven. search (tests, rules); left = c.answer.ensures }

pub returns-then-may_tear-clause-chosen : goal.returns-then-may_tear-clause-chosen
returns-then-may_tear-clause-chosen c = search (tests, rules)
