-- Cut slot after cut slot. A slot that is not cut is not lost.
use Rattle.std.proofs.Common.{◌≡◌, ◌==◌, ◌∙◌, ℕ, false, inl, inr, Option, Some, None, ap, refl, sym}
use Rattle.std.specs.Option.{is_some}
use Rattle.std.specs.Int.{bit_at}
use Rattle.std.proofs.lemmas.Bool.{cases_eq, cond-true, cond-false, eq-eqb, ne_eqb, false≢true}
use Rattle.i3c_base.specs.Cutting.{cut_of, is_by, lost_by}
use Rattle.i3c_device.specs.Sets.{has}
use Rattle.i3c_device.proofs.slot_set.cut_slots.Goals as goal

-- what is not cut is not cut by a bit
not_by : (last : ℕ) (cut : Option ℕ) → is_some cut ≡ false → is_by last cut ≡ false
not_by last None none = refl
not_by last (Some bit) none = absurd (false≢true (sym none))

pub loop-index-init : goal.loop-index-init
loop-index-init c s lt out = c.none-lost.ensures s ∙ sym (not_by c.args.last (cut_of c.args.cuts.now s) (sym (c.slots.ensures s lt) ∙ (ap (λ bits. bit_at bits s == 1) (sym c.of_bits-left.ensures) ∙ out)))

pub loop-index-preserved : goal.loop-index-preserved
loop-index-preserved c s lt out = c.with-lost.ensures s lt ∙ elim (cases_eq s c.in-Some.index) [
  | inl e ↦
      cond-true (s == c.in-Some.index) c.is_lost.result (has c.loop-index.lost s) (eq-eqb s c.in-Some.index e)
      ∙ (c.is_lost.ensures ∙ ap (lost_by c.args.cuts.now c.args.last) (c.from_index.ensures ∙ sym e))
  | inr ne ↦ (
      let other : (s == c.in-Some.index) ≡ false = ne_eqb s c.in-Some.index ne in
      cond-false (s == c.in-Some.index) c.is_lost.result (has c.loop-index.lost s) other
      ∙ c.loop-index.invariant s lt (sym (cond-false (s == c.in-Some.index) false (has c.loop-index.left s) other) ∙ (sym (c.in-Some.ensures.taken.3 s lt) ∙ out))
      )
]

pub returns : goal.returns
returns c s lt = c.loop-index.invariant s lt (c.in_default.ensures.taken s lt)
