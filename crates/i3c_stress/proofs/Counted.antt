-- Counting entry by entry.
use Rattle.std.proofs.Common.{◌≡◌, ℕ, ◌+◌, ◌≤◌, Bool, true, false, List, length, take, cond, count_by, ap, refl, ◌∙◌, arith}
use Rattle.std.specs.Prelude.{Some, slice_get}
use Rattle.std.proofs.lemmas.List.{take_all}
use Rattle.std.proofs.lemmas.List.Sums.{sum_by_more}
use Rattle.std.proofs.lemmas.Option.{get_or_from_slice_get, slice_get_within}
use mir.Val.{bool_byte}

one : (b : Bool) → cond b 1 0 ≡ bool_byte b
one true = refl
one false = refl

one_at_most : (b : Bool) → bool_byte b ≤ 1
one_at_most true = omega arith
one_at_most false = omega arith

count_more : {X : Type 0} (p : X → Bool) (xs : List X) (i : ℕ) (x : X) → slice_get xs i ≡ Some x → count_by p (take (i + 1) xs) ≡ count_by p (take i xs) + bool_byte (p x)
count_more {X} p xs i x at =
    sum_by_more (λ (y : X). cond (p y) 1 0) xs i x (slice_get_within xs i x at)
    ∙ ap (λ (y : X). count_by p (take i xs) + cond (p y) 1 0) (get_or_from_slice_get xs i x x at)
    ∙ ap (λ n. count_by p (take i xs) + n) (one (p x))

-- the count so far and one for the next element, if it is counted
pub next_count : {X : Type 0} (p : X → Bool) (xs : List X) (i n r : ℕ) (x : X) (b : Bool) → slice_get xs i ≡ Some x
    → n ≡ count_by p (take i xs) → n ≤ i → b ≡ p x → r ≡ bool_byte b
    → (n + r ≡ count_by p (take (i + 1) xs)) × (n + r ≤ i + 1)
next_count {X} p xs i n r x b at so_far few is worth =
    let same : r ≡ bool_byte (p x) = worth ∙ ap (λ b. bool_byte b) is in
    (omega (arith, so_far, same, count_more p xs i x at), omega (arith, few, same, one_at_most (p x)))

-- the same where the count is one more or the same
pub next_raise : {X : Type 0} (p : X → Bool) (xs : List X) (i n r : ℕ) (x : X) → slice_get xs i ≡ Some x
    → n ≡ count_by p (take i xs) → n ≤ i → r ≡ n + cond (p x) 1 0
    → (r ≡ count_by p (take (i + 1) xs)) × (r ≤ i + 1)
next_raise {X} p xs i n r x at so_far few is =
    let next = next_count p xs i n (cond (p x) 1 0) x (p x) at so_far few refl (one (p x)) in
    (is ∙ next.0, omega (arith, is, next.1))

pub whole_count : {X : Type 0} (p : X → Bool) (xs : List X) (i n : ℕ) → length xs ≤ i → n ≡ count_by p (take i xs) → n ≡ count_by p xs
whole_count {X} p xs i n past so_far = so_far ∙ ap (λ (ys : List X). count_by p ys) (take_all i xs past)
