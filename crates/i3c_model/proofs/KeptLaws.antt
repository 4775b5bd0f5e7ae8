-- The least address that is kept for an identity.
use Rattle.std.proofs.Common.{◌≡◌, ℕ, ◌<◌, length, get_or, Option, Some, None, MatchOption, HoldsAt, IsSomeAnd, inl, inr, sym, refl, ap, ◌∙◌, subst, arith, nat_cmp}
use Rattle.std.specs.BTreeMap.{IsOrdered, get, keys}
use Rattle.std.specs.List.{AllWithin}
use Rattle.std.proofs.lemmas.Bool.{cases_eq, cases_lt}
use Rattle.std.proofs.lemmas.Cmp.{nat_cmp_total}
use Rattle.std.proofs.lemmas.List.{get_or-map, length-map}
use Rattle.std.proofs.lemmas.Map.Keys.{below_from_sorted}
use Rattle.std.proofs.lemmas.Map.Lookups.{exact_unsigned}
use Rattle.std.proofs.lemmas.Map.Views.{btree_map_get_iff}
use Rattle.std.proofs.lemmas.Option.{none-some}
use Rattle.i3c_base.specs.declared.identity.Identity.{Identity}
use Rattle.i3c_base.specs.State.{Entry, State, IsKept, IsUnknown, entry_at, kept_of}
use Rattle.i3c_model.specs.declared.plain.Plain.TheInside.{Inside}
use Rattle.i3c_model.specs.Views.{IsWithinPlaces, state_of}
use Rattle.i3c_model.proofs.States.{entry_there}

-- an entry is kept for the identity, or isn't
abbrev pub Keeps : Identity → ℕ × Entry → Type 0
Keeps i e = e.1.kept ≡ Some i

abbrev pub Spares : Identity → ℕ × Entry → Type 0
Spares i e = e.1.kept ≡ Some i → ⊥

kept_from : (i : Identity) (o : Option Entry) → kept_of o ≡ Some i → (e : Entry) × (o ≡ Some e) × (e.kept ≡ Some i)
kept_from i None h = absurd (none-some i h)
kept_from i (Some e) h = (e, refl, h)

module _ (p : Inside) (st : State) (seen : state_of p ≡ st) (within : IsWithinPlaces p) (ordered : IsOrdered nat_cmp p.given) (i : Identity) where
  kept_there : (a : ℕ) → kept_of (entry_at st a) ≡ Some i → (e : Entry) × (get nat_cmp p.given a ≡ Some e) × (e.kept ≡ Some i)
  kept_there a h = kept_from i (get nat_cmp p.given a) (ap kept_of (sym (entry_there p st seen within a)) ∙ h)

  place_of : (a : ℕ) (e : Entry) → get nat_cmp p.given a ≡ Some e → (k : ℕ) × (k < length p.given.entries) × (get_or p.given.entries k (a, e) ≡ (a, e))
  place_of a e h = (btree_map_get_iff nat_cmp_total exact_unsigned p.given ordered a e).0 h

  -- none of the entries is kept for it
  unknown : AllWithin (Spares i) p.given.entries 0 (length p.given.entries) → IsUnknown st i
  unknown spares a h =
      let there = kept_there a h in
      let at = place_of a there.0 there.1 in
      spares at.0 (a, there.0) (omega arith) at.1 (ap (λ (x : ℕ × Entry). x.1.kept) at.2 ∙ there.2)

  key_at : (k : ℕ) (e : ℕ × Entry) → k < length p.given.entries → get_or p.given.entries k e ≡ e → get_or (keys p.given) k 0 ≡ e.0
  key_at k e l at = get_or-map (λ (x : ℕ × Entry). x.0) p.given.entries k e 0 l ∙ ap (λ (x : ℕ × Entry). x.0) at

  keys_long : (k : ℕ) → k < length p.given.entries → k < length (keys p.given)
  keys_long k l = rw (length-map {A = ℕ × Entry} {B = ℕ}) l

  -- the first one that is kept for it has the least address
  kept : (e : ℕ × Entry) (k : ℕ) → Keeps i e → k < length p.given.entries → HoldsAt (λ y. y ≡ e) p.given.entries k → AllWithin (Spares i) p.given.entries 0 k → IsKept st i e.0
  kept e k keeps l at spares = (
    ap kept_of (entry_there p st seen within e.0 ∙ (btree_map_get_iff nat_cmp_total exact_unsigned p.given ordered e.0 e.1).1 (k, l, at e)) ∙ keeps,
    λ b below h.
        let there = kept_there b h in
        let other = place_of b there.0 there.1 in
        elim (cases_lt other.0 k) [
          | inl before ↦ spares other.0 (b, there.0) (omega arith) before (ap (λ (x : ℕ × Entry). x.1.kept) other.2 ∙ there.2)
          | inr after ↦ elim (cases_eq other.0 k) [
            | inl same ↦ let e0 = key_at k e l (at e) in let b0 = key_at other.0 (b, there.0) other.1 other.2 in let j : get_or (keys p.given) other.0 0 ≡ get_or (keys p.given) k 0 = ap (λ n. get_or (keys p.given) n 0) same in omega arith
            | inr apart ↦
                let e0 = key_at k e l (at e) in
                let b0 = key_at other.0 (b, there.0) other.1 other.2 in
                let up : get_or (keys p.given) k 0 < get_or (keys p.given) other.0 0 = below_from_sorted (keys p.given) k other.0 0 ordered (omega arith) (keys_long other.0 other.1) in
                omega arith
          ]
        ],
  )

  -- the address of the first entry that is kept for it
  pub kept_first : {A : Type 0} (v : A → ℕ × Entry) (o : Option A) (r : Option ℕ) (Gives : A → ℕ → Type 0)
      → MatchOption o (AllWithin (Spares i) p.given.entries 0 (length p.given.entries)) (λ x. Keeps i (v x) × (k : ℕ) × (k < length p.given.entries) × HoldsAt (λ y. y ≡ v x) p.given.entries k × AllWithin (Spares i) p.given.entries 0 k)
      → MatchOption o (r ≡ None) (λ x. IsSomeAnd r (Gives x)) → ((x : A) (a : ℕ) → Gives x a → a ≡ (v x).0) → MatchOption r (IsUnknown st i) (IsKept st i)
  kept_first v None r Gives h e same = subst (λ q. MatchOption q (IsUnknown st i) (IsKept st i)) (sym e) (unknown h)
  kept_first v (Some x) (Some a) Gives h e same = subst (IsKept st i) (sym (same x a e)) (kept (v x) h.1 h.0 h.2 h.3 h.4)
  kept_first v (Some x) None Gives h e same = absurd e
