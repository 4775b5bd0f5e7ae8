-- A mask of 0 names no slot.
use Rattle.std.proofs.Common.{arith, eq-eqb, subst, ap, sym, ◌∙◌}
use Rattle.std.proofs.lemmas.Bool.{eqb-true}
use Rattle.i3c_base.specs.declared.range.TheConstants.{SLOTS}
use Rattle.i3c_base.specs.Cutting.{IsUncut}
use Rattle.i3c_base.specs.Places.{masked_from}
use Rattle.i3c_base.proofs.CutLaws.{none_uncut, uncut_zero, zero_none, zero_uncut}
use Rattle.i3c_base.proofs.cuts.Cuts.is_empty.Goals as goal

pub returns-clause-uncut : goal.returns-clause-uncut
returns-clause-uncut c = (
  λ zero. subst IsUncut (ap (λ m. masked_from 0 m c.self.inside.bits) (sym (eqb-true c.self.inside.cut 0 zero)) ∙ c.self.view_is) (uncut_zero c.self.inside.bits),
  λ uncut. eq-eqb c.self.inside.cut 0 (zero_uncut SLOTS c.self.inside.cut c.self.inside.bits c.self.invariant (omega arith) (subst IsUncut (sym c.self.view_is) uncut)),
)

pub returns-clause-none : goal.returns-clause-none
returns-clause-none c = (
  λ zero. sym c.self.view_is ∙ (ap (λ m. masked_from 0 m c.self.inside.bits) (eqb-true c.self.inside.cut 0 zero) ∙ zero_none c.self.inside.bits (omega arith)),
  λ none. eq-eqb c.self.inside.cut 0 (zero_uncut SLOTS c.self.inside.cut c.self.inside.bits c.self.invariant (omega arith) (subst IsUncut (sym (c.self.view_is ∙ none)) none_uncut)),
)
