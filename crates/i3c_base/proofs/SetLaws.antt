-- Sets of addresses, and the set of the usable ones.
use Rattle.std.proofs.Common.{◌≡◌, ◌≢◌, ◌↔◌, ℕ, zero, suc, ◌+◌, ◌-◌, ◌*◌, ◌%◌, ◌^◌, ◌<◌, ◌≤◌, ◌&&◌, ◌==◌, if◌then◌else◌, nat_le, min, Bool, true, false, not, sym, refl, ap, ◌∙◌, inl, inr, arith, lit<}
use Rattle.std.specs.List.{list_all, range_with_len}
use Rattle.std.proofs.lemmas.Bool.{and_from, and_parts, both_ways, cases_eq, cases_lt, cond-true, eq-eqb, eqb-true, le-leb, leb-true, ne_eqb}
use Rattle.std.proofs.lemmas.Nat.{and_le_l, one_shl}
use Rattle.std.proofs.lemmas.Nat.Bits.{bit_at-pow_other, bit_at-pow_same, bit_at-lt, bit_at-trailing_zeros, bit_at-zero, bit_at_above, bit_at_and, bit_at_clear_other, bit_at_clear_same, bit_at_not, bit_at_set_other, bit_at_set_same, same_from_bits_below}
use Rattle.std.specs.Int.{w128, bit_at, bit_not, trailing_zeros}
use Rattle.std.specs.Int.RustNames.{bit_or}
use lib.Bits.{bit_and}
use Rattle.i3c_base.specs.State.{IsUsable}
use Rattle.i3c_base.specs.Sets.{is_in, IsLowest}

-- the test of a usable address
abbrev pub is_usable : ℕ → Bool
is_usable a = nat_le 0x08 a && (nat_le a 0x77 && (not (a == 0x3E) && (not (a == 0x5E) && (not (a == 0x6E) && not (a == 0x76)))))

pub is_usable-true : (a : ℕ) → IsUsable a → is_usable a ≡ true
is_usable-true a u =
    and_from _ _ (le-leb 0x08 a u.0) (and_from _ _ (le-leb a 0x77 u.1) (and_from _ _ (ap not (ne_eqb a 0x3E u.2)) (and_from _ _ (ap not (ne_eqb a 0x5E u.3)) (and_from _ _ (ap not (ne_eqb a 0x6E u.4)) (ap not (ne_eqb a 0x76 u.5))))))

is_usable-from : (a : ℕ) → is_usable a ≡ true → IsUsable a
is_usable-from a e =
    let p0 = and_parts _ _ e in
    let p1 = and_parts _ _ p0.1 in
    let p2 = and_parts _ _ p1.1 in
    let p3 = and_parts _ _ p2.1 in
    let p4 = and_parts _ _ p3.1 in
    (leb-true _ _ p0.0, leb-true _ _ p1.0, isnt a 0x3E p2.0, isnt a 0x5E p3.0, isnt a 0x6E p4.0, isnt a 0x76 p4.1)
  where
    isnt : (a b : ℕ) → not (a == b) ≡ true → a ≢ b
    isnt a b n e = both_ways (not (a == b)) (ap not (eq-eqb a b e)) n

-- the set of the usable addresses
abbrev usable_set : ℕ
usable_set = 995622902817012564592952254314577664

usable_bits : list_all (λ a. bit_at usable_set a == (if is_usable a then 1 else 0)) (range_with_len 0 128) ≡ true
usable_bits = refl

in_all : (p : ℕ → Bool) (n a k : ℕ) → list_all p (range_with_len a n) ≡ true → a ≤ k → k < a + n → p k ≡ true
in_all p zero a k h low high = absurd (omega arith)
in_all p (suc n) a k h low high =
    let parts = and_parts (p a) (list_all p (range_with_len (a + 1) n)) h in
    elim (cases_eq k a) [
      | inl e ↦ ap p e ∙ parts.0
      | inr other ↦ in_all p n (a + 1) k parts.1 (omega (arith, other)) (omega arith)
    ]

usable_at : (a : ℕ) → a < 128 → bit_at usable_set a ≡ (if is_usable a then 1 else 0)
usable_at a l = eqb-true _ _ (in_all (λ a. bit_at usable_set a == (if is_usable a then 1 else 0)) 128 0 a usable_bits (omega arith) (omega arith))

-- ---- members of a set

pub in_from : (set a : ℕ) → bit_at set a ≡ 1 → is_in set a ≡ true
in_from set a e = eq-eqb (bit_at set a) 1 e

pub in_to : (set a : ℕ) → is_in set a ≡ true → bit_at set a ≡ 1
in_to set a e = eqb-true (bit_at set a) 1 e

pub out_from : (set a : ℕ) → bit_at set a ≡ 0 → is_in set a ≡ false
out_from set a e = ap (λ n. n == 1) e

pub in_nothing : (a : ℕ) → is_in 0 a ≡ false
in_nothing a = out_from 0 a (bit_at-zero a)

-- a set that has no address is the empty one
pub empty_is : (set : ℕ) → set < 2 ^ 128 → ((a : ℕ) → is_in set a ≡ false) → set ≡ 0
empty_is set fits none = same_from_bits_below 128 set 0 fits (lit< tt) (λ a l. bit_out a ∙ sym (bit_at-zero a))
  where
    bit_out : (a : ℕ) → bit_at set a ≡ 0
    bit_out a = elim (cases_lt (bit_at set a) 1) [ inl l ↦ omega (arith, l) | inr l ↦ absurd (both_ways (is_in set a) (none a) (in_from set a (omega (arith, l, bit_at-lt set a)))) ]

pub beyond : (set a : ℕ) → set < 2 ^ 128 → 128 ≤ a → is_in set a ≡ false
beyond set a fits past = out_from set a (bit_at_above set 128 a (omega arith) past)

-- the usable addresses are those of their set
pub usable_in : (a : ℕ) → (is_in usable_set a ≡ true) ↔ IsUsable a
usable_in a = (
  λ has. elim (cases_lt a 128) [
    | inl l ↦ is_usable-from a (one_if (is_usable a) (sym (usable_at a l) ∙ in_to usable_set a has))
    | inr past ↦ absurd (both_ways (is_in usable_set a) (beyond usable_set a (omega arith) past) has)
  ],
  λ usable.
      let most = usable.1 in
      let l : a < 128 = omega (arith, most) in
      in_from usable_set a (usable_at a l ∙ cond-true (is_usable a) 1 0 (is_usable-true a usable)),
)
  where
    one_if : (b : Bool) → ◌≡◌ {A = ℕ} (if b then 1 else 0) 1 → b ≡ true
    one_if true e = refl
    one_if false e = absurd (omega (arith, e))

-- those of another less
pub less_all : (set others a : ℕ) → set < 2 ^ 128 → others < 2 ^ 128 → is_in (bit_and set (bit_not w128 others)) a ≡ (is_in set a && not (is_in others a))
less_all set others a fits small = elim (cases_lt a 128) [
  | inl l ↦ ap (λ n. n == 1) (bit_at_and set (bit_not w128 others) a ∙ ap (min (bit_at set a)) (bit_at_not w128 others a small l)) ∙ by_bits (bit_at set a) (bit_at others a) (bit_at-lt set a) (bit_at-lt others a)
  | inr past ↦
      beyond (bit_and set (bit_not w128 others)) a (omega (arith, fits, and_le_l set (bit_not w128 others))) past
      ∙ sym (ap (λ b. b && not (is_in others a)) (beyond set a fits past))
]
  where
    by_bits : (m n : ℕ) → m < 2 → n < 2 → (min m (1 - n) == 1) ≡ (m == 1 && not (n == 1))
    by_bits zero zero l k = refl
    by_bits zero (suc zero) l k = refl
    by_bits (suc zero) zero l k = refl
    by_bits (suc zero) (suc zero) l k = refl
    by_bits (suc (suc m)) n l k = absurd (omega arith)
    by_bits zero (suc (suc n)) l k = absurd (omega arith)
    by_bits (suc zero) (suc (suc n)) l k = absurd (omega arith)

-- an address more
pub with_same : (set k : ℕ) → k < 128 → is_in (bit_or set (1 * 2 ^ k % 2 ^ 128)) k ≡ true
with_same set k l = in_from _ k (bit_at_set_same w128 set k l)

pub with_other : (set k a : ℕ) → k < 128 → a ≢ k → is_in (bit_or set (1 * 2 ^ k % 2 ^ 128)) a ≡ is_in set a
with_other set k a l other = ap (λ n. n == 1) (bit_at_set_other w128 set k l a other)

-- an address less
abbrev pub less : ℕ → ℕ → ℕ
less set k = bit_and set (bit_not w128 (1 * 2 ^ k % 2 ^ 128))

pub less_same : (set k : ℕ) → k < 128 → is_in (less set k) k ≡ false
less_same set k l = out_from _ k (bit_at_clear_same w128 set k l)

pub less_other : (set k a : ℕ) → set < 2 ^ 128 → k < 128 → a ≢ k → is_in (less set k) a ≡ is_in set a
less_other set k a fits l other = elim (cases_lt a 128) [
  | inl low ↦ ap (λ n. n == 1) (bit_at_clear_other w128 set k l a low other)
  | inr past ↦ beyond (less set k) a (omega (arith, and_le_l set (bit_not w128 (1 * 2 ^ k % 2 ^ 128)))) past ∙ sym (beyond set a fits past)
]

pub less_below : (set k : ℕ) → k < 128 → is_in set k ≡ true → less set k < set
less_below set k l has =
    let gone = bit_at_clear_same w128 set k l in
    let apart : less set k ≢ set = λ e. absurd (omega (arith, sym gone ∙ (ap (λ n. bit_at n k) e ∙ in_to set k has))) in
    omega (arith, apart, and_le_l set (bit_not w128 (1 * 2 ^ k % 2 ^ 128)))

-- the bit of one address is that of this address alone
only_bit : (set k a : ℕ) → k < 128 → bit_at (bit_and set (1 * 2 ^ k % 2 ^ 128)) a ≡ min (bit_at set a) (bit_at (2 ^ k) a)
only_bit set k a l = bit_at_and set (1 * 2 ^ k % 2 ^ 128) a ∙ ap (λ n. min (bit_at set a) (bit_at n a)) (one_shl k 128 l)

pub only_same : (set k : ℕ) → k < 128 → is_in (bit_and set (1 * 2 ^ k % 2 ^ 128)) k ≡ is_in set k
only_same set k l = ap (λ n. n == 1) (omega (arith, only_bit set k k l, bit_at-pow_same k, bit_at-lt set k))

pub only_other : (set k a : ℕ) → k < 128 → a ≢ k → is_in (bit_and set (1 * 2 ^ k % 2 ^ 128)) a ≡ false
only_other set k a l other = out_from _ a (omega (arith, only_bit set k a l, bit_at-pow_other k a other))

pub lowest : (set : ℕ) → set ≢ 0 → set < 2 ^ 128 → (trailing_zeros w128 set < 128) × IsLowest set (trailing_zeros w128 set)
lowest set some fits =
    let lies = bit_at-trailing_zeros w128 set (omega arith) fits in
    (lies.0, (in_from set _ lies.1, λ b below. out_from set b (lies.2 b below)))
