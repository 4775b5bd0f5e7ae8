-- Each contender that is cut there is put in.
use Rattle.std.proofs.Common.{ℕ, ap, arith, refl, sym, ◌∙◌}
use Rattle.std.proofs.lemmas.Bool.{cond-false, cond-true}
use Rattle.std.proofs.lemmas.Nat.{one_shl}
use Rattle.std.specs.Int.RustNames.{bit_or}
use Rattle.i3c_base.specs.Cutting.{cut_of}
use Rattle.i3c_wires.specs.Masks.{is_at}
use Rattle.i3c_wires.proofs.MaskLaws.{mask_next, mask_none}
use Rattle.i3c_wires.proofs.masks.cut_among.Goals as goal
use Rattle.i3c_wires.proofs.masks.cut_among.Goals.{then-is_cut_at, else-is_cut_at}

pub returns-then-is_empty : goal.returns-then-is_empty
returns-then-is_empty c =
    let uncut = c.if-is_empty.ensures.uncut.0 refl in
    sym (mask_none (λ (e : ℕ × ℕ). is_at c.args.bit (cut_of c.args.cuts.now e.0)) c.args.keys.now (λ e. ap (is_at c.args.bit) (uncut e.0)))

pub loop-place-preserved : goal.loop-place-preserved
loop-place-preserved c =
    mask_next (λ (e : ℕ × ℕ). is_at c.args.bit (cut_of c.args.cuts.now e.0)) c.args.keys.now c.loop-place.place c.index-keys-place.result c.loop-place.places c.if-is_cut_at.places
    (omega arith) c.index-keys-place.is
    c.loop-place.invariant
    (elim c.if-is_cut_at.branch [
      | then-is_cut_at w ↦ w.places-is ∙ (ap (bit_or c.loop-place.places) (one_shl c.loop-place.place 64 (omega (arith, c.requires))) ∙ sym (cond-true _ _ _ (sym c.is_cut_at.ensures ∙ w.if-is_cut_at.true)))
      | else-is_cut_at w ↦ w.places-is ∙ sym (cond-false _ _ _ (sym c.is_cut_at.ensures ∙ w.if-is_cut_at.false))
    ])
