-- When two tables have the same rows.
use Rattle.std.proofs.Common.{◌≡◌, ℕ, ◌^◌, ◌<◌, ◌≤◌, Bool, true, false, not, ◌&&◌, is_some, refl, List, length, Option, None, ◌⊎◌, sym, ap, ◌∙◌, inl, inr, arith, subst}
use Rattle.std.specs.Int.{bit_at}
use Rattle.std.proofs.lemmas.Bool.{both_ways, cases_lt, false≢true}
use Rattle.std.proofs.lemmas.List.{ext_get_or}
use Rattle.std.proofs.lemmas.Nat.Bits.{bit_at-lt, same_from_bits_below}
use Rattle.i3c_base.specs.State.{Entry, IsFree, entry_in, kept_of}
use Rattle.i3c_base.specs.Sets.{is_in}
use Rattle.i3c_base.proofs.SetLaws.{in_from, in_to}
use Rattle.i3c_table.specs.declared.registers.Registers.{Registers}
use Rattle.i3c_table.specs.Stored.{stored}
use Rattle.i3c_table.proofs.Alike.{in_kept}
use Rattle.i3c_table.proofs.StoredLaws.{IsSmall, entry_stored, free_stored, length-stored, out_of, some_or_none}

-- ---- the addresses that were given

-- sets with the same addresses are one
pub one_set : (set other : ℕ) → set < 2 ^ 128 → other < 2 ^ 128 → ((a : ℕ) → is_in set a ≡ is_in other a) → set ≡ other
one_set set other fits others_fits same = same_from_bits_below 128 set other fits others_fits (λ a l. one_bit a (cases_lt (bit_at set a) 1) (cases_lt (bit_at other a) 1))
  where
    one_bit : (a : ℕ) → (bit_at set a < 1) ⊎ (1 ≤ bit_at set a) → (bit_at other a < 1) ⊎ (1 ≤ bit_at other a) → bit_at set a ≡ bit_at other a
    one_bit a (inl m) (inl n) = omega (arith, m, n)
    one_bit a (inr m) _ =
        let one : bit_at set a ≡ 1 = omega (arith, m, bit_at-lt set a) in
        one ∙ sym (in_to other a (sym (same a) ∙ in_from set a one))
    one_bit a (inl _) (inr n) =
        let one : bit_at other a ≡ 1 = omega (arith, n, bit_at-lt other a) in
        in_to set a (same a ∙ in_from other a one) ∙ sym one

module _ (held kept : ℕ) (registers : List Registers) (numbers : List ℕ) (given : List (Option Entry)) (view : stored held kept registers numbers ≡ given) (fits : IsSmall held) where
  -- an address that wasn't given has no entry
  pub none_at : (a : ℕ) → is_in held a ≡ false → entry_in given a ≡ None
  none_at a out = ap (λ g. entry_in g a) (sym view) ∙ (entry_stored held kept registers numbers a fits ∙ out_of held kept registers numbers a out)

  -- and one without an entry wasn't given
  pub out_at : (a : ℕ) → entry_in given a ≡ None → is_in held a ≡ false
  out_at a none = free_stored held kept registers numbers a fits (subst (λ g. IsFree g a) (sym view) none)

  pub length-given : length given ≡ 128
  length-given = ap length (sym view) ∙ length-stored held kept registers numbers

module _ (held kept : ℕ) (registers : List Registers) (numbers : List ℕ) (held' kept' : ℕ) (registers' : List Registers) (numbers' : List ℕ) (given other : List (Option Entry))
    (view : stored held kept registers numbers ≡ given) (other_view : stored held' kept' registers' numbers' ≡ other) (fits : IsSmall held) (other_fits : IsSmall held') where
  -- tables with the same rows have them at the same addresses
  pub same_in : given ≡ other → (a : ℕ) → is_in held a ≡ is_in held' a
  same_in same a = elim (some_or_none (is_in held a)) [
    | inr out ↦ out ∙ sym (out_at held' kept' registers' numbers' other other_view other_fits a (ap (λ g. entry_in g a) (sym same) ∙ none_at held kept registers numbers given view fits a out))
    | inl has ↦ elim (some_or_none (is_in held' a)) [
      | inl has_too ↦ has ∙ sym has_too
      | inr out ↦ absurd (both_ways (is_in held a) (out_at held kept registers numbers given view fits a (ap (λ g. entry_in g a) same ∙ none_at held' kept' registers' numbers' other other_view other_fits a out)) has)
    ]
  ]

-- ---- the addresses that were compared

-- both have the same at each address that isn't left
abbrev pub AreSameBut : ℕ → List (Option Entry) → List (Option Entry) → Type 0
AreSameBut left given other = (a : ℕ) → is_in left a ≡ false → entry_in given a ≡ entry_in other a

-- none is left
pub same_all : (left : ℕ) (given other : List (Option Entry)) → length given ≡ 128 → length other ≡ 128 → AreSameBut left given other → ((a : ℕ) → is_in left a ≡ false) → given ≡ other
same_all left given other long others_long so_far none = ext_get_or None given other (long ∙ sym others_long) (λ a _. so_far a (none a))

-- an address isn't left because it wasn't given, or because it is kept and has the same in both
pub left_alike : (held kept : ℕ) (registers : List Registers) (numbers : List ℕ) (given other : List (Option Entry)) (left : ℕ) (is_so : Bool) (a : ℕ) → stored held kept registers numbers ≡ given → IsSmall held
    → is_in left a ≡ (is_in held a && not (is_so && is_in kept a)) → (is_so ≡ true → (b : ℕ) → is_some (kept_of (entry_in given b)) ≡ true → entry_in given b ≡ entry_in other b)
    → (is_in held a ≡ false → entry_in given a ≡ entry_in other a) → is_in left a ≡ false → entry_in given a ≡ entry_in other a
left_alike held kept registers numbers given other left is_so a view fits is keeps free out = elim (some_or_none (is_in held a)) [
  | inr none ↦ free none
  | inl has ↦ (let both = both_so is_so (is_in kept a) (ap (λ here. here && not (is_so && is_in kept a)) (sym has) ∙ (sym is ∙ out)) in
      keeps both.0 a (ap (λ g. is_some (kept_of (entry_in g a))) (sym view) ∙ (ap (λ e. is_some (kept_of e)) (entry_stored held kept registers numbers a fits) ∙ in_kept held kept registers numbers a has both.1)))
]
  where
    both_so : (so has : Bool) → (true && not (so && has)) ≡ false → (so ≡ true) × (has ≡ true)
    both_so true true h = (refl, refl)
    both_so true false h = absurd (false≢true (sym h))
    both_so false has h = absurd (false≢true (sym h))
