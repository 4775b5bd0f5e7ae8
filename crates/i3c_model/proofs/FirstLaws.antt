-- The first entry of a map that passes a test, which has the least such key.
use Rattle.std.proofs.Common.{◌≡◌, ℕ, ◌<◌, Bool, true, false, ◌&&◌, length, get_or, Option, Some, None, MatchOption, HoldsAt, IsSomeAnd, inl, inr, sym, refl, ap, ◌∙◌, subst, arith, nat_cmp}
use Rattle.std.specs.BTreeMap.{BTreeMap, IsOrdered, get, keys}
use Rattle.std.specs.List.{AllWithin, find, range_with_len}
use Rattle.std.specs.Option.{IsSome}
use Rattle.std.proofs.lemmas.Bool.{cases_eq, cases_lt}
use Rattle.std.proofs.lemmas.Cmp.{nat_cmp_total}
use Rattle.std.proofs.lemmas.List.{get_or-map, length-map}
use Rattle.std.proofs.lemmas.Map.Keys.{below_from_sorted}
use Rattle.std.proofs.lemmas.Map.Lookups.{exact_unsigned}
use Rattle.std.proofs.lemmas.Map.Views.{btree_map_get_iff}
use Rattle.i3c_base.specs.declared.range.TheConstants.{ADDRESSES}
use Rattle.i3c_legacy.proofs.LeastLaws.{least_found, least_nowhere}
use Rattle.i3c_model.specs.Views.{IsKeyedBelow}

-- an entry passes a test of the value at its key, or fails it
abbrev pub Passes : {A : Type 0} → (ℕ → Option A → Bool) → ℕ × A → Type 0
Passes test e = test e.0 (Some e.1) ≡ true

abbrev pub Fails : {A : Type 0} → (ℕ → Option A → Bool) → ℕ × A → Type 0
Fails test e = test e.0 (Some e.1) ≡ false

pub and_none : (b : Bool) → (b && false) ≡ false
and_none true = refl
and_none false = refl

module _ {A : Type 0} (m : BTreeMap ℕ A) (ordered : IsOrdered nat_cmp m) (below : IsKeyedBelow ADDRESSES m) (test : ℕ → Option A → Bool) (bare : (a : ℕ) → test a None ≡ false) where
  place_of : (a : ℕ) (x : A) → get nat_cmp m a ≡ Some x → (k : ℕ) × (k < length m.entries) × (get_or m.entries k (a, x) ≡ (a, x))
  place_of a x h = (btree_map_get_iff nat_cmp_total exact_unsigned m ordered a x).0 h

  fails_at : (a : ℕ) → ((x : A) → get nat_cmp m a ≡ Some x → test a (Some x) ≡ false) → test a (get nat_cmp m a) ≡ false
  fails_at a h = go (get nat_cmp m a) refl
    where
      go : (o : Option A) → get nat_cmp m a ≡ o → test a (get nat_cmp m a) ≡ false
      go None e = ap (test a) e ∙ bare a
      go (Some x) e = ap (test a) e ∙ h x e

  -- where no entry passes, none is found
  nowhere : AllWithin (Fails test) m.entries 0 (length m.entries) → find (λ a. test a (get nat_cmp m a)) (range_with_len 0 ADDRESSES) ≡ None
  nowhere fails = least_nowhere (λ a. test a (get nat_cmp m a)) (λ b. fails_at b (λ x h.
      let at = place_of b x h in ap (λ (e : ℕ × A). test e.0 (Some e.1)) (sym at.2) ∙ fails at.0 (b, x) (omega arith) at.1))

  key_at : (k : ℕ) (e : ℕ × A) → k < length m.entries → get_or m.entries k e ≡ e → get_or (keys m) k 0 ≡ e.0
  key_at k e l at = get_or-map (λ (x : ℕ × A). x.0) m.entries k e 0 l ∙ ap (λ (x : ℕ × A). x.0) at

  keys_long : (k : ℕ) → k < length m.entries → k < length (keys m)
  keys_long k l = rw (length-map {A = ℕ × A} {B = ℕ}) l

  -- the first entry that passes has the least key
  here : (e : ℕ × A) (k : ℕ) → Passes test e → k < length m.entries → HoldsAt (λ y. y ≡ e) m.entries k → AllWithin (Fails test) m.entries 0 k
      → find (λ a. test a (get nat_cmp m a)) (range_with_len 0 ADDRESSES) ≡ Some e.0
  here e k passes l at fails =
      let got : get nat_cmp m e.0 ≡ Some e.1 = (btree_map_get_iff nat_cmp_total exact_unsigned m ordered e.0 e.1).1 (k, l, at e) in
      least_found (λ a. test a (get nat_cmp m a)) e.0 (below e.0 (subst IsSome (sym got) refl)) (ap (test e.0) got ∙ passes) (λ b less. fails_at b (λ x h.
      let other = place_of b x h in
      elim (cases_lt other.0 k) [
        | inl before ↦ ap (λ (y : ℕ × A). test y.0 (Some y.1)) (sym other.2) ∙ fails other.0 (b, x) (omega arith) before
        | inr after ↦
            let e0 = key_at k e l (at e) in
            let b0 = key_at other.0 (b, x) other.1 other.2 in
            elim (cases_eq other.0 k) [
              | inl same ↦ let j : get_or (keys m) other.0 0 ≡ get_or (keys m) k 0 = ap (λ n. get_or (keys m) n 0) same in absurd (omega arith)
              | inr apart ↦ let up : get_or (keys m) k 0 < get_or (keys m) other.0 0 = below_from_sorted (keys m) k other.0 0 ordered (omega arith) (keys_long other.0 other.1) in absurd (omega arith)
            ]
      ]))

  -- the key of the first entry that passes
  pub first_is : {B : Type 0} (v : B → ℕ × A) (o : Option B) (r : Option ℕ) (Gives : B → ℕ → Type 0)
      → MatchOption o (AllWithin (Fails test) m.entries 0 (length m.entries)) (λ x. Passes test (v x) × (k : ℕ) × (k < length m.entries) × HoldsAt (λ y. y ≡ v x) m.entries k × AllWithin (Fails test) m.entries 0 k)
      → MatchOption o (r ≡ None) (λ x. IsSomeAnd r (Gives x)) → ((x : B) (a : ℕ) → Gives x a → a ≡ (v x).0) → r ≡ find (λ a. test a (get nat_cmp m a)) (range_with_len 0 ADDRESSES)
  first_is v None r Gives h e same = e ∙ sym (nowhere h)
  first_is v (Some x) (Some a) Gives h e same = ap Some (same x a e) ∙ sym (here (v x) h.1 h.0 h.2 h.3 h.4)
  first_is v (Some x) None Gives h e same = absurd e
