-- The least identity of the hearers that are lost, or that are left.
use Rattle.std.proofs.Common.{◌≡◌, ◌↔◌, ℕ, zero, suc, ◌<◌, Bool, true, false, cond, List, [], ◌∷◌, map, filter, fold, length, get_or, Option, Some, None, MatchOption, Contains, ◌⊎◌, inl, inr, sym, refl, ap, ◌∙◌, subst, arith, Ordering, Less, Equal, Greater, is_lt, nat_cmp}
use Rattle.std.specs.Ordering.{min_by_ordering, ordering_reverse, ordering_then}
use Rattle.std.specs.Cmp.{IsStrictWeakOrder, IsTotalOrder, nat_cmp_is}
use Rattle.std.specs.List.{reduce}
use Rattle.std.specs.BTreeMap.{IsOrdered}
use Rattle.std.proofs.lemmas.Bool.{cases_Bool, false≢true}
use Rattle.std.proofs.lemmas.Cmp.{nat_cmp_total, on_total, then_total}
use Rattle.std.proofs.lemmas.List.MinMax.{ranks_by}
use Rattle.i3c_base.specs.declared.identity.Identity.{Identity}
use Rattle.i3c_base.specs.Numbers.{IsBelow}
use Rattle.i3c_base.specs.Cutting.{Lost}
use Rattle.i3c_base.specs.Round.{AllHearersLost, IsBeatenByLost, IsHearer, IsWinner}
use Rattle.i3c_base.specs.State.{Device, State}
use Rattle.i3c_model.specs.Meaning.{IsLeastHearer, NoHearer}
use Rattle.i3c_model.specs.declared.plain.Plain.TheInside.{Inside}
use Rattle.i3c_model.specs.Views.{IsWithinPlaces, state_of}
use Rattle.i3c_step.proofs.Uniqueness.{below_total}
use Rattle.i3c_model.proofs.Entries.{entry_in_slot, slot_in_entries}

-- an item of a list
abbrev pub In : {A : Type 0} → A → List A → Type 0
In x [] = ⊥
In x (y ∷ ys) = (y ≡ x) ⊎ In x ys

-- the lesser of two, and the first where they are equal
abbrev pub lesser : {A : Type 0} → (A → A → Ordering) → A → A → A
lesser R x y = min_by_ordering (R x y) x y

module _ {A : Type 0} (R : A → A → Ordering) (o : IsTotalOrder R) where
  order : IsStrictWeakOrder (λ x y. is_lt (R x y))
  order = ranks_by o (λ (x : A). x)

  irrefl : (x : A) → is_lt (R x x) ≡ false
  irrefl x = elim (cases_Bool (is_lt (R x x))) [ inl t ↦ order.one_way x x t | inr f ↦ f ]

  lesser_is : (x y : A) (r : Ordering) → R x y ≡ r
      → (is_lt (R x (min_by_ordering r x y)) ≡ false) × (is_lt (R y (min_by_ordering r x y)) ≡ false) × ((min_by_ordering r x y ≡ x) ⊎ (min_by_ordering r x y ≡ y))
  lesser_is x y Less e = (irrefl x, order.one_way x y (ap is_lt e), inl refl)
  lesser_is x y Equal e = (irrefl x, ap is_lt (o.antisymm y x ∙ ap ordering_reverse e), inl refl)
  lesser_is x y Greater e = (ap is_lt e, irrefl y, inr refl)

  none_less : (x : A) (xs : List A) → (is_lt (R x (fold (lesser R) x xs)) ≡ false) × ((y : A) → In y xs → is_lt (R y (fold (lesser R) x xs)) ≡ false)
  none_less x [] = (irrefl x, λ y h. absurd h)
  none_less x (z ∷ zs) =
      let two = lesser_is x z (R x z) refl in
      let rest = none_less (lesser R x z) zs in (
        order.chain x (lesser R x z) (fold (lesser R) (lesser R x z) zs) two.0 rest.0,
        λ y h. elim h [
          | inl e ↦ subst (λ w. is_lt (R w (fold (lesser R) (lesser R x z) zs)) ≡ false) e (order.chain z (lesser R x z) (fold (lesser R) (lesser R x z) zs) two.1 rest.0)
          | inr k ↦ rest.1 y k
        ],
      )

  among : (x : A) (xs : List A) → In (fold (lesser R) x xs) (x ∷ xs)
  among x [] = inl refl
  among x (z ∷ zs) = elim (among (lesser R x z) zs) [
    | inl e ↦ elim (lesser_is x z (R x z) refl).2 [ inl p ↦ inl (sym p ∙ e) | inr q ↦ inr (inl (sym q ∙ e)) ]
    | inr k ↦ inr (inr k)
  ]

  -- m is the least item of a list
  abbrev pub IsLeast : List A → A → Type 0
  IsLeast xs m = In m xs × ((y : A) → In y xs → is_lt (R y m) ≡ false)

  least_of : (xs : List A) → MatchOption (reduce (lesser R) xs) (xs ≡ []) (IsLeast xs)
  least_of [] = refl
  least_of (x ∷ xs) = (among x xs, λ y h. elim h [ inl e ↦ subst (λ w. is_lt (R w (fold (lesser R) x xs)) ≡ false) e (none_less x xs).0 | inr k ↦ (none_less x xs).1 y k ])

-- the order of identities
abbrev pub identity_cmp : Identity → Identity → Ordering
identity_cmp i j = ordering_then (nat_cmp i.pid j.pid) (ordering_then (nat_cmp i.bcr.0 j.bcr.0) (nat_cmp i.dcr.0 j.dcr.0))

identity_total : IsTotalOrder identity_cmp
identity_total = then_total (on_total (λ (i : Identity). i.pid) nat_cmp_total) (then_total (on_total (λ (i : Identity). i.bcr.0) nat_cmp_total) (on_total (λ (i : Identity). i.dcr.0) nat_cmp_total))

below_less : (i j : Identity) → IsBelow i j → identity_cmp i j ≡ Less
below_less i j h = elim h [
  | inl p ↦ ap (λ r. ordering_then r (ordering_then (nat_cmp i.bcr.0 j.bcr.0) (nat_cmp i.dcr.0 j.dcr.0))) (sym (nat_cmp_is i.pid j.pid Less p))
  | inr q ↦ elim q [
    | inl r ↦ ap (λ o. ordering_then o (ordering_then (nat_cmp i.bcr.0 j.bcr.0) (nat_cmp i.dcr.0 j.dcr.0))) (sym (nat_cmp_is i.pid j.pid Equal r.0))
        ∙ ap (λ o. ordering_then o (nat_cmp i.dcr.0 j.dcr.0)) (sym (nat_cmp_is i.bcr.0 j.bcr.0 Less r.1))
    | inr t ↦ ap (λ o. ordering_then o (ordering_then (nat_cmp i.bcr.0 j.bcr.0) (nat_cmp i.dcr.0 j.dcr.0))) (sym (nat_cmp_is i.pid j.pid Equal t.0))
        ∙ (ap (λ o. ordering_then o (nat_cmp i.dcr.0 j.dcr.0)) (sym (nat_cmp_is i.bcr.0 j.bcr.0 Equal t.1)) ∙ sym (nat_cmp_is i.dcr.0 j.dcr.0 Less t.2))
  ]
]

pub less_from : (o : Ordering) → is_lt o ≡ true → o ≡ Less
less_from Less h = refl
less_from Equal h = absurd (false≢true h)
less_from Greater h = absurd (false≢true h)

-- the converse
less_below : (i j : Identity) → identity_cmp i j ≡ Less → IsBelow i j
less_below i j e = elim (below_total i j) [
  | inl b ↦ b
  | inr o ↦ elim o [
    | inl b ↦ let g : Greater ≡ Less = sym (identity_total.antisymm i j ∙ ap ordering_reverse (below_less j i b)) ∙ e in cc
    | inr same ↦ absurd (false≢true (sym (irrefl identity_cmp identity_total i) ∙ (ap (λ k. is_lt (identity_cmp i k)) same ∙ ap is_lt e)))
  ]
]

-- the identities of a map's entries that pass a test
abbrev pub heard : (ℕ × Device → Bool) → List (ℕ × Device) → List Identity
heard test es = map (λ (e : ℕ × Device). e.1.identity) (filter test es)

-- an entry passes the test, and has the identity
abbrev Passes : (ℕ × Device → Bool) → List (ℕ × Device) → Identity → Type 0
Passes test es i = (s : ℕ) × (d : Device) × Contains es (s, d) × (test (s, d) ≡ true) × (d.identity ≡ i)

later : (test : ℕ × Device → Bool) (e : ℕ × Device) (es : List (ℕ × Device)) (i : Identity) → Passes test es i → Passes test (e ∷ es) i
later test e es i h = let l = h.2.1 in (h.0, h.1, (suc h.2.0, (omega arith), h.2.2), h.3, h.4)

heard_from : (test : ℕ × Device → Bool) (es : List (ℕ × Device)) (i : Identity) → In i (heard test es) → Passes test es i
heard_from test [] i h = absurd h
heard_from test (e ∷ es) i h = go (test e) refl (λ k. heard_from test es i k) h
  where
    go : (b : Bool) → test e ≡ b → (In i (heard test es) → Passes test es i) → In i (map (λ (x : ℕ × Device). x.1.identity) (cond b (e ∷ filter test es) (filter test es))) → Passes test (e ∷ es) i
    go true is rest k = elim k [ inl same ↦ (e.0, e.1, (0, omega arith, refl), is, same) | inr m ↦ later test e es i (rest m) ]
    go false is rest k = later test e es i (rest k)

heard_there : (test : ℕ × Device → Bool) (es : List (ℕ × Device)) (k s : ℕ) (d : Device) → k < length es → get_or es k (s, d) ≡ (s, d) → test (s, d) ≡ true → In d.identity (heard test es)
heard_there test [] k s d l e hears = absurd (omega arith)
heard_there test (x ∷ es) k s d l e hears = go (test x) refl (λ j below same. heard_there test es j s d below same hears) k l e
  where
    go : (b : Bool) → test x ≡ b → ((j : ℕ) → j < length es → get_or es j (s, d) ≡ (s, d) → In d.identity (heard test es)) → (k : ℕ) → k < length (x ∷ es) → get_or (x ∷ es) k (s, d) ≡ (s, d)
        → In d.identity (map (λ (y : ℕ × Device). y.1.identity) (cond b (x ∷ filter test es) (filter test es)))
    go true is rest zero l same = inl (ap (λ (p : ℕ × Device). p.1.identity) same)
    go true is rest (suc k) l same = inr (rest k (omega arith) same)
    go false is rest zero l same = absurd (false≢true (sym is ∙ (ap test same ∙ hears)))
    go false is rest (suc k) l same = rest k (omega arith) same

module _ (p : Inside) (st : State) (seen : state_of p ≡ st) (within : IsWithinPlaces p) (ordered : IsOrdered nat_cmp p.devices) (lost : Lost) (which : Bool) (test : ℕ × Device → Bool)
    (tests : (s : ℕ) (d : Device) → (test (s, d) ≡ true) ↔ ((d.hearing ≡ true) × (lost s ≡ which))) where
  entry_hears : (s : ℕ) (d : Device) → IsHearer st s d → lost s ≡ which → In d.identity (heard test p.devices.entries)
  entry_hears s d h l =
      let at = slot_in_entries p st seen within ordered s d h.0 in
      heard_there test p.devices.entries at.0 s d at.1 at.2 ((tests s d).1 (h.1, l))

  hears_there : (i : Identity) → In i (heard test p.devices.entries) → (s : ℕ) × (d : Device) × IsHearer st s d × (lost s ≡ which) × (d.identity ≡ i)
  hears_there i h =
      let at = heard_from test p.devices.entries i h in
      let passes = (tests at.0 at.1).0 at.3 in
      (at.0, at.1, (entry_in_slot p st seen within ordered at.0 at.1 at.2, passes.0), passes.1, at.4)

  nobody_hears : heard test p.devices.entries ≡ [] → NoHearer st lost which
  nobody_hears none s d h l = subst (In d.identity) none (entry_hears s d h l)

  least_hears : (i : Identity) → IsLeast identity_cmp identity_total (heard test p.devices.entries) i → IsLeastHearer st lost which i
  least_hears i least = (
    hears_there i least.0,
    λ s d h l below. false≢true (sym (least.1 d.identity (entry_hears s d h l)) ∙ ap is_lt (below_less d.identity i below)),
  )

  -- the least of the identities
  pub least_hearer_of : (r : Option Identity) → r ≡ reduce (lesser identity_cmp) (heard test p.devices.entries) → MatchOption r (NoHearer st lost which) (IsLeastHearer st lost which)
  least_hearer_of r e =
      subst (λ o. MatchOption o (NoHearer st lost which) (IsLeastHearer st lost which)) (sym e) (go (reduce (lesser identity_cmp) (heard test p.devices.entries)) (least_of identity_cmp identity_total (heard test p.devices.entries)))
    where
      go : (o : Option Identity) → MatchOption o (heard test p.devices.entries ≡ []) (IsLeast identity_cmp identity_total (heard test p.devices.entries)) → MatchOption o (NoHearer st lost which) (IsLeastHearer st lost which)
      go None h = nobody_hears h
      go (Some i) h = least_hears i h

-- the winner: the least of the devices that are left, and none if no device is left
pub left_wins : (st : State) (lost : Lost) (i : Identity) → IsLeastHearer st lost false i → IsWinner st lost i
left_wins st lost i h = (h.0, λ j c below. h.1 c.0 c.1 c.2 c.3 (subst (λ k. IsBelow k i) (sym c.4) below))

-- the least of the lost hearers beats all that are left, if it is below the least of these
pub lost_beats : (st : State) (lost : Lost) (i j : Identity) → IsLeastHearer st lost true i → IsLeastHearer st lost false j → identity_cmp i j ≡ Less → IsBeatenByLost st lost
lost_beats st lost i j l r less =
    (l.0.0, l.0.1, l.0.2, l.0.3, λ k c. subst (λ x. IsBelow x k) (sym l.0.4) (below_all k (λ b. r.1 c.0 c.1 c.2 c.3 (subst (λ x. IsBelow x j) (sym c.4) b))))
  where
    -- an identity that isn't below j is above i
    below_all : (k : Identity) → ¬ IsBelow k j → IsBelow i k
    below_all k above = go (is_lt (identity_cmp i k)) refl
      where
        not_below : is_lt (identity_cmp k j) ≡ false
        not_below = decide (is_lt (identity_cmp k j)) refl
          where
            decide : (b : Bool) → is_lt (identity_cmp k j) ≡ b → b ≡ false
            decide true e = absurd (above (less_below k j (less_from (identity_cmp k j) e)))
            decide false e = refl

        go : (b : Bool) → is_lt (identity_cmp i k) ≡ b → IsBelow i k
        go true e = less_below i k (less_from (identity_cmp i k) e)
        go false e = absurd (false≢true (sym ((order identity_cmp identity_total).chain i k j e not_below) ∙ ap is_lt less))

-- no hearer that is left is beaten if none is lost, or if the least of the lost isn't below the least of the others
not_below : (i j : Identity) → ¬ IsBelow i j → is_lt (identity_cmp i j) ≡ false
not_below i j above = go (is_lt (identity_cmp i j)) refl
  where
    go : (b : Bool) → is_lt (identity_cmp i j) ≡ b → b ≡ false
    go true e = absurd (above (less_below i j (less_from (identity_cmp i j) e)))
    go false e = refl

pub not_beaten : (st : State) (lost : Lost) (i j : Identity) → IsLeastHearer st lost true i → IsLeastHearer st lost false j → is_lt (identity_cmp i j) ≡ false → IsBeatenByLost st lost → ⊥
not_beaten st lost i j l r no_less b =
    let below = b.4 j r.0 in
    let above = not_below b.1.identity i (l.1 b.0 b.1 b.2 b.3) in
    false≢true (sym ((order identity_cmp identity_total).chain b.1.identity i j above no_less) ∙ ap is_lt (below_less b.1.identity j below))

pub none_beaten : (st : State) (lost : Lost) → NoHearer st lost true → IsBeatenByLost st lost → ⊥
none_beaten st lost none b = none b.0 b.1 b.2 b.3

-- not all are lost where one is left
pub some_left : (st : State) (lost : Lost) (j : Identity) → IsLeastHearer st lost false j → ¬ AllHearersLost st lost
some_left st lost j r all = false≢true (sym r.0.3 ∙ all r.0.0 r.0.1 r.0.2)
