-- What a map has at its places, before and after a change.
use Rattle.std.proofs.Common.{◌≡◌, ◌≢◌, ℕ, ◌≤◌, ◌<◌, Bool, true, false, not, cond, if◌then◌else◌, List, [], ◌∷◌, map, length, get_or, set, replicate, Option, Some, None, option_map, sym, refl, ap, ◌∙◌, arith, inl, inr, zero-add, subst}
use Rattle.std.specs.Ordering.{nat_cmp}
use Rattle.std.specs.Cmp.{unsigned_tied}
use Rattle.std.specs.List.{filter, range_with_len}
use Rattle.std.specs.Map.{lookup}
use Rattle.std.specs.Map.Calls.{RetainsPairs}
use Rattle.std.specs.Option.{IsSome}
use Rattle.std.specs.BTreeMap.{BTreeMap, Updates, WritesThrough, get, is_at}
use Rattle.std.proofs.lemmas.Bool.{cases_eq, cases_lt, eqb-true, false≢true, ne_eqb}
use Rattle.std.proofs.lemmas.List.{get_or-set_other, get_or-set_same, get_or_past, length-set, length-replicate, get_or-replicate}
use Rattle.std.proofs.lemmas.List.FromFn.{length-map-range_with_len, get_or-map-range_with_len, fill_by_all}
use Rattle.std.proofs.lemmas.Map.Entries.{lookup-filter-keys}
use Rattle.std.proofs.lemmas.Map.Steps.{set_value_same}
use Rattle.i3c_base.specs.Places.{changed}
use Rattle.i3c_base.proofs.Lookups.{changed_at, length-changed}
use Rattle.i3c_model.specs.Views.{IsKeyedBelow, places_of}

-- two numbers that differ are different keys
pub apart : (k q : ℕ) → k ≢ q → is_at (nat_cmp k) q ≡ false
apart k q n = unsigned_tied k q ∙ ne_eqb k q n

-- a look-up over entries whose values are changed
lookup-map_keyed : {A : Type 0} (g : ℕ → A → A) (q : ℕ) (es : List (ℕ × A)) → lookup (is_at (nat_cmp q)) (map (λ e. (e.0, g e.0 e.1)) es) ≡ option_map (g q) (lookup (is_at (nat_cmp q)) es)
lookup-map_keyed g q [] = refl
lookup-map_keyed {A} g q (e ∷ es) = go (is_at (nat_cmp q) e.0) refl (lookup-map_keyed g q es)
  where
    go : (b : Bool) → is_at (nat_cmp q) e.0 ≡ b → lookup (is_at (nat_cmp q)) (map (λ x. (x.0, g x.0 x.1)) es) ≡ option_map (g q) (lookup (is_at (nat_cmp q)) es)
        → cond b (Some (g e.0 e.1)) (lookup (is_at (nat_cmp q)) (map (λ x. (x.0, g x.0 x.1)) es)) ≡ option_map (g q) (cond b (Some e.1) (lookup (is_at (nat_cmp q)) es))
    go true is rest = ap (λ k. Some (g k e.1)) (sym (eqb-true q e.0 (sym (unsigned_tied q e.0) ∙ is)))
    go false is rest = rest

-- a closure that keeps each pair, writes g of each value at its key, and stays as it was
pub map_keyed_pairs : {F X : Type 0} (T : F → ℕ → X → Bool → X → F → Type 0) (g : ℕ → X → X) (f : F) → ((k : ℕ) (v : X) (b : Bool) (w : X) (f' : F) → T f k v b w f' → (b ≡ true) × (w ≡ g k v) × (f' ≡ f))
    → (es kept : List (ℕ × X)) → RetainsPairs T f es kept → kept ≡ map (λ e. (e.0, g e.0 e.1)) es
map_keyed_pairs T g f h [] kept r = r
map_keyed_pairs T g f h (e ∷ es) kept r =
    let a = h e.0 e.1 r.0 r.1 r.2 r.4 in
    let rest = map_keyed_pairs T g f h es r.3 (subst (λ u. RetainsPairs T u es r.3) a.2 r.5) in
    r.6 ∙ ap (λ b. cond b ((e.0, r.1) ∷ r.3) r.3) a.0 ∙ (λ i. (e.0, a.1 i) ∷ rest i)

-- a key more
pub below_put : {A : Type 0} (n : ℕ) (m new : BTreeMap ℕ A) (k : ℕ) (x : A) → IsKeyedBelow n m → k < n → Updates nat_cmp m new k (Some x) → IsKeyedBelow n new
below_put n m new k x below l put q h = elim (cases_eq q k) [
  | inl e ↦ rw e l
  | inr other ↦ below q (subst IsSome (put.2 q (apart k q (λ e. other (sym e)))) h)
]

-- a key less
pub below_gone : {A : Type 0} (n : ℕ) (m new : BTreeMap ℕ A) (k : ℕ) → IsKeyedBelow n m → Updates nat_cmp m new k None → IsKeyedBelow n new
below_gone n m new k below put q h = elim (cases_eq q k) [
  | inl e ↦ absurd (false≢true (subst IsSome (ap (get nat_cmp new) e ∙ put.1) h))
  | inr other ↦ below q (subst IsSome (put.2 q (apart k q (λ e. other (sym e)))) h)
]

-- what is written through a borrow: the value that was there, or another one
pub written_same : {A : Type 0} (m new : BTreeMap ℕ A) (k : ℕ) (d w : A) → WritesThrough nat_cmp (nat_cmp k) m w new → Some d ≡ get nat_cmp m k → w ≡ d → new.entries ≡ m.entries
written_same m new k d w h at e = h.0 ∙ set_value_same (is_at (nat_cmp k)) m.entries w (sym at ∙ ap Some (sym e))

pub written_puts : {A : Type 0} (m new : BTreeMap ℕ A) (k : ℕ) (d w : A) → WritesThrough nat_cmp (nat_cmp k) m w new → Some d ≡ get nat_cmp m k → Updates nat_cmp m new k (Some w)
written_puts m new k d w h at = h.3 (subst IsSome at refl)

module _ {A : Type 0} (n : ℕ) where
  pub length-places : (m : BTreeMap ℕ A) → length (places_of n m) ≡ n
  unfolding places_of
  length-places m = length-map-range_with_len (λ k. get nat_cmp m k) 0 n

  places_below : (m : BTreeMap ℕ A) (k : ℕ) → k < n → get_or (places_of n m) k None ≡ get nat_cmp m k
  unfolding places_of
  places_below m k l = get_or-map-range_with_len (λ j. get nat_cmp m j) 0 n k k None l (zero-add k)

  absent : (m : BTreeMap ℕ A) (k : ℕ) (o : Option A) → get nat_cmp m k ≡ o → IsKeyedBelow n m → n ≤ k → o ≡ None
  absent m k None e within past = refl
  absent m k (Some x) e within past = let small : k < n = within k (subst IsSome (sym e) refl) in absurd (omega arith)

  -- each place holds the value that the map has there
  pub places_at : (m : BTreeMap ℕ A) (k : ℕ) → IsKeyedBelow n m → get_or (places_of n m) k None ≡ get nat_cmp m k
  places_at m k within = elim (cases_lt k n) [
    | inl l ↦ places_below m k l
    | inr past ↦ get_or_past (places_of n m) k None (rw (length-places m) past) ∙ sym (absent m k (get nat_cmp m k) refl within past)
  ]

  -- a list with these values at its places is the list of the map
  pub places_are : (m : BTreeMap ℕ A) (places : List (Option A)) → length places ≡ n → ((k : ℕ) → k < n → get_or places k None ≡ get nat_cmp m k) → places_of n m ≡ places
  unfolding places_of
  places_are m places long at = sym (fill_by_all (λ k. get nat_cmp m k) places n None long at)

  -- maps of the same entries
  pub places_same : (m new : BTreeMap ℕ A) → new.entries ≡ m.entries → places_of n new ≡ places_of n m
  unfolding places_of
  places_same m new e = ap (λ es. map (λ k. lookup (is_at (nat_cmp k)) es) (range_with_len 0 n)) e

  -- no entries
  pub places_none : (m : BTreeMap ℕ A) → m.entries ≡ [] → places_of n m ≡ replicate n None
  places_none m e = places_are m (replicate n None) (length-replicate {A = Option A} n None) (λ k l. get_or-replicate {A = Option A} n k None None l ∙ sym (ap (lookup (is_at (nat_cmp k))) e))

  -- one key with a value put there, or taken away
  pub places_put : (m new : BTreeMap ℕ A) (k : ℕ) (o : Option A) → k < n → get nat_cmp new k ≡ o → ((q : ℕ) → is_at (nat_cmp k) q ≡ false → get nat_cmp new q ≡ get nat_cmp m q)
      → places_of n new ≡ set (places_of n m) k o
  places_put m new k o l here others =
      places_are new (set (places_of n m) k o) (length-set (places_of n m) k o ∙ length-places m) (λ q below. elim (cases_eq q k) [
        | inl e ↦ rw e (get_or-set_same (places_of n m) k o None (rw (length-places m) l) ∙ sym here)
        | inr other ↦ get_or-set_other (places_of n m) k q o None other ∙ (places_below m q below ∙ sym (others q (apart k q (λ e. other (sym e)))))
      ])

  change_each : (g h : ℕ → A → A) (k : ℕ) (o : Option A) → ((x : A) → o ≡ Some x → g k x ≡ h k x) → option_map (h k) o ≡ option_map (g k) o
  change_each g h k None same = refl
  change_each g h k (Some x) same = ap Some (sym (same x refl))

  -- each value changed, by a change that is given its key
  pub places_changed : (g h : ℕ → A → A) (m new : BTreeMap ℕ A) → ((k : ℕ) (x : A) → get nat_cmp m k ≡ Some x → g k x ≡ h k x) → new.entries ≡ map (λ e. (e.0, g e.0 e.1)) m.entries
      → places_of n new ≡ changed (λ k place. option_map (h k) place) (places_of n m)
  places_changed g h m new same e =
      places_are new (changed (λ k place. option_map (h k) place) (places_of n m)) (length-changed (λ k place. option_map (h k) place) (places_of n m) ∙ length-places m) (λ q below.
      changed_at (λ k place. option_map (h k) place) (places_of n m) q None refl
      ∙ (ap (option_map (h q)) (places_below m q below)
      ∙ (change_each g h q (get nat_cmp m q) (same q) ∙ sym (ap (lookup (is_at (nat_cmp q))) e ∙ lookup-map_keyed g q m.entries))))

  -- some keys taken away
  pub places_left : (gone : ℕ → Bool) (m new : BTreeMap ℕ A) → new.entries ≡ filter (λ e. not (gone e.0)) m.entries
      → places_of n new ≡ changed (λ k place. if gone k then None else place) (places_of n m)
  places_left gone m new e =
      places_are new (changed (λ k place. if gone k then None else place) (places_of n m)) (length-changed (λ k place. if gone k then None else place) (places_of n m) ∙ length-places m) (λ q below.
      changed_at (λ k place. if gone k then None else place) (places_of n m) q None (none_if (gone q))
      ∙ (ap (λ (o : Option A). if gone q then None else o) (places_below m q below)
      ∙ (left_if (gone q) (get nat_cmp m q)
      ∙ sym (ap (lookup (is_at (nat_cmp q))) e ∙ lookup-filter-keys (is_at (nat_cmp q)) (λ k. not (gone k)) (not (gone q)) (λ k t. ap (λ j. not (gone j)) (sym (eqb-true q k (sym (unsigned_tied q k) ∙ t)))) m.entries))))
    where
      none_if : (b : Bool) → ◌≡◌ {A = Option A} (if b then None else None) None
      none_if true = refl
      none_if false = refl

      left_if : (b : Bool) (o : Option A) → (if b then None else o) ≡ cond (not b) o None
      left_if true o = refl
      left_if false o = refl
