-- Ports that are compared with their rings, one after another.
use Rattle.std.proofs.Common.{◌≡◌, ℕ, zero, suc, ◌+◌, ◌<◌, ◌≤◌, ◌==◌, Bool, true, false, ◌&&◌, List, [], ◌∷◌, ◌++◌, length, set, take, refl, sym, ap, ◌∙◌, subst, arith}
use Rattle.std.specs.Prelude.{Some, slice_get}
use Rattle.std.proofs.lemmas.Bool.{false≢true}
use Rattle.std.proofs.lemmas.Bool.Decides.{nat_tests}
use Rattle.std.proofs.lemmas.Option.{same_Some, slice_get_within}
use Rattle.i3c_shared.specs.Ports.{AllBegun, AllCovered, HasPort, IsAt, SamePort, SamePorts}
use Rattle.i3c_shared.specs.Rings.{IsBegun, IsEndOf, IsWhole, ring_at}
use Rattle.i3c_shared.specs.Values.{PortValue, Rings}
use Rattle.i3c_shared.proofs.Meeting.{begun_same, whole_same}

-- the first i ports were compared
pub record Covers (rings : Rings) (init items : List PortValue) (i : ℕ) (whole : Bool) : Type 0 where
  pub count : length items ≡ length init
  pub each : (k : ℕ) (p q : PortValue) → k < i → IsAt init k p → IsAt items k q → SamePort p q
  pub rest : (k : ℕ) → i ≤ k → slice_get items k ≡ slice_get init k
  pub begun : (k : ℕ) (p : PortValue) → k < i → IsAt init k p → IsEndOf p (ring_at rings p.slot) → IsBegun p (ring_at rings p.slot)
  pub covered : whole ≡ true → (k : ℕ) (p : PortValue) → k < i → IsAt init k p → IsEndOf p (ring_at rings p.slot) → IsWhole p (ring_at rings p.slot)

pub set_here : (items : List PortValue) (i : ℕ) (x : PortValue) → i < length items → slice_get (set items i x) i ≡ Some x
set_here [] i x h = absurd (omega (arith, h))
set_here (y ∷ items) zero x h = refl
set_here (y ∷ items) (suc i) x h = set_here items i x (omega (arith, h))

pub set_other : (items : List PortValue) (i k : ℕ) (x : PortValue) → (k ≡ i → ⊥) → slice_get (set items i x) k ≡ slice_get items k
set_other [] i k x n = refl
set_other (y ∷ items) zero zero x n = absurd (n refl)
set_other (y ∷ items) zero (suc k) x n = refl
set_other (y ∷ items) (suc i) zero x n = refl
set_other (y ∷ items) (suc i) (suc k) x n = set_other items i k x (λ e. n (ap suc e))

pub set_count : (items : List PortValue) (i : ℕ) (x : PortValue) → length (set items i x) ≡ length items
set_count [] i x = refl
set_count (y ∷ items) zero x = refl
set_count (y ∷ items) (suc i) x = ap suc (set_count items i x)

and_left : (a b : Bool) → (a && b) ≡ true → a ≡ true
and_left true b h = refl
and_left false b h = h

and_right : (a b : Bool) → (a && b) ≡ true → b ≡ true
and_right true b h = h
and_right false b h = absurd (false≢true h)

pub covers_next : (rings : Rings) (init items : List PortValue) (i : ℕ) (whole covered : Bool) (was now : PortValue) → Covers rings init items i whole → IsAt items i was → SamePort was now
    → (IsEndOf was (ring_at rings was.slot) → IsBegun now (ring_at rings was.slot))
    → (covered ≡ true → IsEndOf was (ring_at rings was.slot) → IsWhole now (ring_at rings was.slot)) → Covers rings init (set items i now) (i + 1) (whole && covered)
covers_next rings init items i whole covered was now h here same first all = record {
  count = set_count items i now ∙ h.count;
  each = λ k p q low p_at q_at. each_at k p q low p_at q_at (k == i) refl;
  rest = λ k high. set_other items i k now (λ e. omega (arith, high, e)) ∙ h.rest k (omega (arith, high));
  begun = λ k p low p_at end. begun_at k p low p_at end (k == i) refl;
  covered = λ both k p low p_at end. covered_at both k p low p_at end (k == i) refl;
}
  where
    room : i < length items
    room = slice_get_within items i was here

    was_is : (p : PortValue) → IsAt init i p → was ≡ p
    was_is p p_at = same_Some was p (sym here ∙ (h.rest i (omega arith) ∙ p_at))

    each_at : (k : ℕ) (p q : PortValue) → k < i + 1 → IsAt init k p → IsAt (set items i now) k q → (t : Bool) → (k == i) ≡ t → SamePort p q
    each_at k p q low p_at q_at true is =
        let e : k ≡ i = grind (arith, nat_tests) in
        let p_is : was ≡ p = was_is p (subst (λ j. IsAt init j p) e p_at) in
        let q_is : now ≡ q = same_Some now q (sym (set_here items i now room) ∙ subst (λ j. IsAt (set items i now) j q) e q_at) in
        subst (λ (x : PortValue). SamePort x q) p_is (subst (λ (x : PortValue). SamePort was x) q_is same)
    each_at k p q low p_at q_at false is =
        let n : k ≡ i → ⊥ = grind (arith, nat_tests) in
        h.each k p q (grind (arith, nat_tests)) p_at (sym (set_other items i k now n) ∙ q_at)

    begun_at : (k : ℕ) (p : PortValue) → k < i + 1 → IsAt init k p → IsEndOf p (ring_at rings p.slot) → (t : Bool) → (k == i) ≡ t → IsBegun p (ring_at rings p.slot)
    begun_at k p low p_at end true is =
        let e : k ≡ i = grind (arith, nat_tests) in
        let p_is : was ≡ p = was_is p (subst (λ j. IsAt init j p) e p_at) in
        let end_was : IsEndOf was (ring_at rings was.slot) = subst (λ (x : PortValue). IsEndOf x (ring_at rings x.slot)) (sym p_is) end in
        subst (λ (x : PortValue). IsBegun x (ring_at rings x.slot)) p_is (begun_same was now (ring_at rings was.slot) same (first end_was))
    begun_at k p low p_at end false is = h.begun k p (grind (arith, nat_tests)) p_at end

    covered_at : (whole && covered) ≡ true → (k : ℕ) (p : PortValue) → k < i + 1 → IsAt init k p → IsEndOf p (ring_at rings p.slot) → (t : Bool) → (k == i) ≡ t → IsWhole p (ring_at rings p.slot)
    covered_at both k p low p_at end true is =
        let e : k ≡ i = grind (arith, nat_tests) in
        let p_is : was ≡ p = was_is p (subst (λ j. IsAt init j p) e p_at) in
        let end_was : IsEndOf was (ring_at rings was.slot) = subst (λ (x : PortValue). IsEndOf x (ring_at rings x.slot)) (sym p_is) end in
        subst (λ (x : PortValue). IsWhole x (ring_at rings x.slot)) p_is (whole_same was now (ring_at rings was.slot) same (all (and_right whole covered both) end_was))
    covered_at both k p low p_at end false is =
        h.covered (and_left whole covered both) k p (grind (arith, nat_tests)) p_at end

-- at the start none is
pub covers_none : (rings : Rings) (init : List PortValue) → Covers rings init init 0 true
covers_none rings init = record {
  count = refl;
  each = λ k p q low p_at q_at. absurd (omega (arith, low));
  rest = λ k high. refl;
  begun = λ k p low p_at end. absurd (omega (arith, low));
  covered = λ both k p low p_at end. absurd (omega (arith, low));
}

-- at the end all ports come back, and all are covered where each was
pub covers_same : (rings : Rings) (init items : List PortValue) (i : ℕ) (whole : Bool) → Covers rings init items i whole → length init ≤ i → SamePorts init items
covers_same rings init items i whole h high = record { count = h.count; each = λ k p q p_at q_at. h.each k p q (let low = slice_get_within init k p p_at in omega (arith, low, high)) p_at q_at }

pub covers_all : (rings : Rings) (init items : List PortValue) (i : ℕ) (whole : Bool) → Covers rings init items i whole → length init ≤ i → whole ≡ true → AllCovered rings init
covers_all rings init items i whole h high is k p p_at end = h.covered is k p (let low = slice_get_within init k p p_at in omega (arith, low, high)) p_at end

pub all_begun : (rings : Rings) (init items : List PortValue) (i : ℕ) (whole : Bool) → Covers rings init items i whole → length init ≤ i → AllBegun rings init
all_begun rings init items i whole h high k p p_at end = h.begun k p (let low = slice_get_within init k p p_at in omega (arith, low, high)) p_at end

-- no port of the slot is among the first i
pub no_port_next : (items : List PortValue) (i s : ℕ) (item : PortValue) → ((k : ℕ) (p : PortValue) → k < i → IsAt items k p → p.slot ≡ s → ⊥) → IsAt items i item → (item.slot ≡ s → ⊥) → (k : ℕ) (p : PortValue) → k < i + 1 → IsAt items k p → p.slot ≡ s → ⊥
no_port_next items i s item before here other k p low p_at is = go (k == i) refl
  where
    go : (t : Bool) → (k == i) ≡ t → ⊥
    go true e = let same : k ≡ i = grind (arith, nat_tests) in other (ap (λ (x : PortValue). x.slot) (same_Some item p (sym here ∙ subst (λ j. IsAt items j p) same p_at)) ∙ is)
    go false e = before k p (grind (arith, nat_tests)) p_at is

pub no_port : (items : List PortValue) (i s : ℕ) → ((k : ℕ) (p : PortValue) → k < i → IsAt items k p → p.slot ≡ s → ⊥) → length items ≤ i → HasPort items s → ⊥
no_port items i s before high h = before h.0 h.1 (let low = slice_get_within items h.0 h.1 h.2 in omega (arith, low, high)) h.2 h.3

pub taken_all : (xs ys : List PortValue) (n : ℕ) → n ≡ length xs → take n (xs ++ ys) ≡ xs
taken_all xs ys n is = subst (λ k. take k (xs ++ ys) ≡ xs) (sym is) (go xs)
  where
    go : (xs : List PortValue) → take (length xs) (xs ++ ys) ≡ xs
    go [] = refl
    go (x ∷ xs) = ap (λ l. x ∷ l) (go xs)
