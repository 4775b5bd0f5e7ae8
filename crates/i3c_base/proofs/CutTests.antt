-- The test of equal cuts.
use Rattle.std.proofs.Common.{◌≡◌, ℕ, ◌<◌, ◌^◌, ◌⊎◌, inl, inr, Bool, true, false, nat_eq, List, length, get_or, Option, Some, None, sym, refl, ap, ◌∙◌, arith}
use Rattle.std.specs.Bool.{Decides}
use Rattle.std.specs.Option.{option_eq}
use Rattle.std.specs.Cmp.Lexicographic.{pointwise}
use Rattle.std.specs.Int.{bit_at}
use Rattle.std.proofs.lemmas.Bool.{cases_eq, eq-eqb, eqb-true, false≢true}
use Rattle.std.proofs.lemmas.List.{ext_get_or}
use Rattle.std.proofs.lemmas.Nat.Bits.{bit_at-lt, same_from_bits_below}
use Rattle.std.proofs.lemmas.Option.{none-some, same_Some}
use Rattle.std.proofs.lemmas.Slice.Eq.{slice_eq-Decides}
use Rattle.i3c_base.specs.Places.{masked_from}
use Rattle.i3c_base.specs.Cutting.{CutList, cut_of}
use Rattle.i3c_base.proofs.CutLaws.{masked_in, masked_out}

bits_decide : (x y : Option ℕ) → Decides (option_eq nat_eq x y) (x ≡ y)
bits_decide None None = (λ h. refl, λ e. refl)
bits_decide None (Some y) = (λ h. absurd (false≢true h), λ e. absurd (none-some y e))
bits_decide (Some x) None = (λ h. absurd (false≢true h), λ e. absurd (none-some x (sym e)))
bits_decide (Some x) (Some y) = (λ h. ap Some (eqb-true x y h), λ e. eq-eqb x y (same_Some x y e))

same_cuts : (cuts others : CutList) → Decides (pointwise (option_eq nat_eq) cuts others) (cuts ≡ others)
same_cuts cuts others = slice_eq-Decides bits_decide cuts others (pointwise (option_eq nat_eq) cuts others) refl

-- cuts that differ
pub other_cuts : (cuts others : CutList) → (cuts ≡ others → ⊥) → false ≡ pointwise (option_eq nat_eq) cuts others
other_cuts cuts others n = go (pointwise (option_eq nat_eq) cuts others) (same_cuts cuts others).0
  where
    go : (b : Bool) → (b ≡ true → cuts ≡ others) → false ≡ b
    go true h = absurd (n (h refl))
    go false h = refl

-- cuts that differ at a slot
pub other_at : (cuts others : CutList) (s : ℕ) → false ≡ option_eq nat_eq (cut_of cuts s) (cut_of others s) → false ≡ pointwise (option_eq nat_eq) cuts others
other_at cuts others s d = other_cuts cuts others (λ e. false≢true (d ∙ (bits_decide (cut_of cuts s) (cut_of others s)).1 (ap (λ all. cut_of all s) e)))

-- cuts that are alike at each slot
pub alike : (cuts others : CutList) → length cuts ≡ length others → ((s : ℕ) → s < length cuts → option_eq nat_eq (cut_of cuts s) (cut_of others s) ≡ true)
    → true ≡ pointwise (option_eq nat_eq) cuts others
alike cuts others long h =
    sym ((same_cuts cuts others).1 (ext_get_or None cuts others long (λ s l. (bits_decide (cut_of cuts s) (cut_of others s)).0 (h s l))))

-- the same cuts are of one mask
pub one_mask : (n mask other : ℕ) (xs ys : List ℕ) → mask < 2 ^ n → other < 2 ^ n → length xs ≡ n → length ys ≡ n → masked_from 0 mask xs ≡ masked_from 0 other ys → mask ≡ other
one_mask n mask other xs ys small too_small long too_long e =
    same_from_bits_below n mask other small too_small (λ i l. go i l (cases_eq (bit_at mask i) 1) (cases_eq (bit_at other i) 1))
  where
    there : (i : ℕ) → get_or (masked_from 0 mask xs) i None ≡ get_or (masked_from 0 other ys) i None
    there i = ap (λ all. get_or all i None) e

    go : (i : ℕ) → i < n → (bit_at mask i ≡ 1) ⊎ (bit_at mask i ≡ 1 → ⊥) → (bit_at other i ≡ 1) ⊎ (bit_at other i ≡ 1 → ⊥) → bit_at mask i ≡ bit_at other i
    go i l (inl a) (inl b) = a ∙ sym b
    go i l (inl a) (inr b) = absurd (none-some (get_or xs i 0) (sym (masked_out other ys i (omega arith) b) ∙ (sym (there i) ∙ masked_in mask xs i (omega arith) a)))
    go i l (inr a) (inl b) = absurd (none-some (get_or ys i 0) (sym (masked_out mask xs i (omega arith) a) ∙ (there i ∙ masked_in other ys i (omega arith) b)))
    go i l (inr a) (inr b) = omega (arith, bit_at-lt mask i, bit_at-lt other i)
