-- Numbers that are compared by the bits in which they differ.
use Rattle.std.proofs.Common.{◌≡◌, ◌<◌, ◌≤◌, ◌∙◌, ◌↔◌, ℕ, ◌+◌, List, ap, arith, bit_or, bit_xor, get_or, inl, inr, subst, sym}
use Rattle.std.proofs.lemmas.Bool.Decides.{leb_tells}
use Rattle.std.proofs.lemmas.Grind.{get_or_default_zero}
use Rattle.std.proofs.lemmas.List.{same_lists}
use Rattle.std.proofs.lemmas.Nat.{le_or_l, le_or_r}
use lib.Bits.{or_zero_l, xor_assoc, xor_self, xor_zero_l, xor_zero_r}
use Rattle.i3c_base.specs.declared.range.TheConstants.{SLOTS}
use Rattle.i3c_base.specs.State.{no_raises}
use Rattle.i3c_base.proofs.Lookups.{replicate_at}
use Rattle.i3c_bus.specs.Spans.{IsSpanned}

-- numbers that differ in no bit
same_bits : (a b : ℕ) → bit_xor a b ≡ 0 → a ≡ b
same_bits a b none = sym (xor_zero_r a) ∙ ap (bit_xor a) (sym (xor_self b)) ∙ sym (xor_assoc a b b) ∙ ap (λ x. bit_xor x b) none ∙ xor_zero_l b

-- two lists that begin alike, by one number more
alike_more : (numbers others : List ℕ) (i : ℕ) → ((k : ℕ) → k < i → get_or numbers k 0 ≡ get_or others k 0) → get_or numbers i 0 ≡ get_or others i 0 → (k : ℕ) → k < i + 1 → get_or numbers k 0 ≡ get_or others k 0
alike_more numbers others i before here k lt = elim (leb_tells i k) [
  | inl (_, le) ↦ (let same : i ≡ k = omega (arith, le, lt) in subst (λ n. get_or numbers n 0 ≡ get_or others n 0) same here)
  | inr (_, less) ↦ before k less
]

-- no bit that was gathered is set just if two lists begin alike: one number more
pub gathered_more : (numbers others : List ℕ) (i gathered : ℕ) → (gathered ≡ 0) ↔ ((k : ℕ) → k < i → get_or numbers k 0 ≡ get_or others k 0)
    → (bit_or gathered (bit_xor (get_or numbers i 0) (get_or others i 0)) ≡ 0) ↔ ((k : ℕ) → k < i + 1 → get_or numbers k 0 ≡ get_or others k 0)
gathered_more numbers others i gathered so_far =
    let a = get_or numbers i 0 in
    let b = get_or others i 0 in (
      λ none. alike_more numbers others i (so_far.0 (omega (arith, none, le_or_l gathered (bit_xor a b)))) (same_bits a b (omega (arith, none, le_or_r gathered (bit_xor a b)))),
      λ alike.
          ap (λ g. bit_or g (bit_xor a b)) (so_far.1 (λ k lt. alike k (omega (arith, lt)))) ∙ or_zero_l (bit_xor a b) ∙ ap (λ x. bit_xor x b) (alike i (omega arith)) ∙ xor_self b,
    )

-- two lists that are alike as far as both spans reach are the same
pub same_spanned : (numbers others : List ℕ) (span other reach : ℕ) → IsSpanned span numbers → IsSpanned other others → span ≤ reach → other ≤ reach
    → ((k : ℕ) → k < reach → get_or numbers k 0 ≡ get_or others k 0) → numbers ≡ others
same_spanned numbers others span other reach p q far also alike =
    same_lists numbers others (p.long ∙ sym q.long) (λ k d lt. get_or_default_zero numbers k d lt ∙ all k ∙ sym (get_or_default_zero others k d (omega (arith, lt, p.long, q.long))))
  where
    all : (k : ℕ) → get_or numbers k 0 ≡ get_or others k 0
    all k = elim (leb_tells reach k) [
      | inl (_, le) ↦ p.rest k (omega (arith, far, le)) ∙ sym (q.rest k (omega (arith, also, le)))
      | inr (_, less) ↦ alike k less
    ]

-- at the start each slot's number of raises is 0
pub none_raised : (k : ℕ) → get_or no_raises k 0 ≡ 0
unfolding no_raises
none_raised k = elim (replicate_at SLOTS k 0 0) [
  | inl is ↦ is
  | inr is ↦ is
]
