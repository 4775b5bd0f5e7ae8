-- The least maximum length of the devices at an address.
use Rattle.std.proofs.Common.{◌≡◌, ℕ, zero, suc, ◌+◌, ◌<◌, ◌≤◌, ◌⊎◌, Bool, true, false, if◌then◌else◌, min, List, [], ◌∷◌, length, get_or, Option, Some, None, inl, inr, refl, sym, ap, ◌∙◌, subst, arith}
use Rattle.std.proofs.Math.Nat.{min-eq_left, min-eq_right}
use Rattle.std.proofs.lemmas.Bool.{both_ways, cases_lt}
use Rattle.std.proofs.lemmas.List.{get_or_past}
use Rattle.std.proofs.lemmas.Option.{none-some, same_Some}
use Rattle.i3c_base.specs.declared.datum.Direction.{Direction}
use Rattle.i3c_base.specs.declared.device.TheConstants.{REGISTERS}
use Rattle.i3c_base.specs.declared.range.TheConstants.{SLOTS}
use Rattle.i3c_base.specs.Frames.{least_length_from, length_of, reaches_at}
use Rattle.i3c_base.specs.Numbers.{KindSet}
use Rattle.i3c_base.specs.State.{Device, in_slot}
use Rattle.i3c_device.specs.declared.enabled.Enabled.{Enabled}
use Rattle.i3c_device.specs.declared.slot_set.SlotSet.{SlotSet}
use Rattle.i3c_device.specs.Enabling.{kinds_in, seen, seen_in, under}
use Rattle.i3c_device.specs.Holding.{length_in}
use Rattle.i3c_device.specs.Lengths.{IsLeastLength}
use Rattle.i3c_device.specs.Sets.{has}
use Rattle.i3c_device.specs.Walks.{AreReached}
use Rattle.i3c_device.proofs.SeenWalks.{now_at, unseen}

-- n is the least maximum length of the devices at an address, in places that begin with slot s
record IsLeastAt (active : ℕ) (way : Direction) (a s : ℕ) (places : List (Option Device)) (n : ℕ) : Type 0 where
  few : n ≤ REGISTERS
  least : (k : ℕ) (d : Device) → get_or places k None ≡ Some d → reaches_at active (Some a) (s + k) d ≡ true → n ≤ length_of way d
  there : (n ≡ REGISTERS) ⊎ ((k : ℕ) × (d : Device) × (get_or places k None ≡ Some d) × (reaches_at active (Some a) (s + k) d ≡ true) × (length_of way d ≡ n))

-- one place more, in which nobody is at the address
passed : (active : ℕ) (way : Direction) (a s : ℕ) (place : Option Device) (places : List (Option Device)) (n : ℕ) → ((d : Device) → place ≡ Some d → reaches_at active (Some a) s d ≡ false)
    → IsLeastAt active way a (suc s) places n → IsLeastAt active way a s (place ∷ places) n
passed active way a s place places n none h = record {
  few = h.few;
  least = least;
  there = elim h.there [
    | inl e ↦ inl e
    | inr x ↦ let next : suc s + x.0 ≡ s + suc x.0 = omega arith in inr (suc x.0, x.1, x.2, subst (λ i. reaches_at active (Some a) i x.1 ≡ true) next x.3, x.4)
  ];
}
  where
    least : (k : ℕ) (d : Device) → get_or (place ∷ places) k None ≡ Some d → reaches_at active (Some a) (s + k) d ≡ true → n ≤ length_of way d
    least zero d e r = let same : s + 0 ≡ s = omega arith in absurd (both_ways _ (none d e) (subst (λ i. reaches_at active (Some a) i d ≡ true) same r))
    least (suc k) d e r = let next : s + suc k ≡ suc s + k = omega arith in h.least k d e (subst (λ i. reaches_at active (Some a) i d ≡ true) next r)

-- one place more, whose device is there
joined : (active : ℕ) (way : Direction) (a s : ℕ) (x : Device) (places : List (Option Device)) (n : ℕ) → reaches_at active (Some a) s x ≡ true
    → IsLeastAt active way a (suc s) places n → IsLeastAt active way a s (Some x ∷ places) (min (length_of way x) n)
joined active way a s x places n reached h = go (cases_lt n (length_of way x))
  where
    here : reaches_at active (Some a) (s + 0) x ≡ true
    here = let same : s ≡ s + 0 = omega arith in subst (λ i. reaches_at active (Some a) i x ≡ true) same reached

    least : (m : ℕ) → m ≤ n → m ≤ length_of way x → (k : ℕ) (d : Device) → get_or (Some x ∷ places) k None ≡ Some d → reaches_at active (Some a) (s + k) d ≡ true → m ≤ length_of way d
    least m l o zero d e r = subst (λ y. m ≤ length_of way y) (same_Some x d e) o
    least m l o (suc k) d e r =
        let next : s + suc k ≡ suc s + k = omega arith in
        let more : n ≤ length_of way d = h.least k d e (subst (λ i. reaches_at active (Some a) i d ≡ true) next r) in omega arith

    go : (n < length_of way x) ⊎ (length_of way x ≤ n) → IsLeastAt active way a s (Some x ∷ places) (min (length_of way x) n)
    go (inl less) = subst (IsLeastAt active way a s (Some x ∷ places)) (sym (min-eq_right (omega (arith, less)))) (record {
      few = h.few;
      least = least n (omega arith) (omega (arith, less));
      there = elim h.there [
        | inl e ↦ inl e
        | inr y ↦ let next : suc s + y.0 ≡ s + suc y.0 = omega arith in inr (suc y.0, y.1, y.2, subst (λ i. reaches_at active (Some a) i y.1 ≡ true) next y.3, y.4)
      ];
    })
    go (inr most) = subst (IsLeastAt active way a s (Some x ∷ places)) (sym (min-eq_left most)) (record {
      few = omega (arith, most, h.few);
      least = least (length_of way x) most (omega arith);
      there = inr (0, x, refl, here, refl);
    })

here_or_not : (active : ℕ) (way : Direction) (a s : ℕ) (x : Device) (places : List (Option Device)) (n : ℕ) (b : Bool) → reaches_at active (Some a) s x ≡ b
    → IsLeastAt active way a (suc s) places n → IsLeastAt active way a s (Some x ∷ places) (if b then min (length_of way x) n else n)
here_or_not active way a s x places n true e h = joined active way a s x places n e h
here_or_not active way a s x places n false e h = passed active way a s (Some x) places n (λ d same. ap (reaches_at active (Some a) s) (sym (same_Some x d same)) ∙ e) h

least_from : (active : ℕ) (way : Direction) (a s : ℕ) (places : List (Option Device)) → IsLeastAt active way a s places (least_length_from active way a s places)
least_from active way a s [] = record { few = omega arith; least = λ k d e r. absurd (none-some d (sym (get_or_past [] k None (omega arith)) ∙ e)); there = inl refl }
least_from active way a s (None ∷ places) = passed active way a s None places _ (λ d e. absurd (none-some d e)) (least_from active way a (suc s) places)
least_from active way a s (Some x ∷ places) = here_or_not active way a s x places (least_length_from active way a (suc s) places) (reaches_at active (Some a) s x) refl (least_from active way a (suc s) places)

no_more : (active : ℕ) (way : Direction) (a s : ℕ) (places : List (Option Device)) (n m : ℕ) → IsLeastAt active way a s places n → IsLeastAt active way a s places m → n ≤ m
no_more active way a s places n m h k = elim k.there [
  | inl e ↦ omega (arith, h.few, e)
  | inr x ↦ let l : n ≤ length_of way x.1 = h.least x.0 x.1 x.2 x.3 in omega (arith, l, x.4)
]

-- a length doesn't depend on enabled kinds
length_under : (way : Direction) (kinds : KindSet) (d : Device) → length_of way (under kinds d) ≡ length_of way d
length_under Direction.Write kinds d = refl
length_under Direction.Read kinds d = refl

-- of the slots at the address it is that
pub least_of : (active a : ℕ) (way : Direction) (slots : SlotSet) (e : Enabled) (xs now : List (Option Device)) (n : ℕ) → seen e xs ≡ now → length xs ≡ SLOTS → AreReached active (Some a) slots xs → IsLeastLength slots way xs n
    → n ≡ least_length_from active way a 0 now
least_of active a way slots e xs now n is long are h = both (no_more active way a 0 now n _ here (least_from active way a 0 now)) (no_more active way a 0 now _ n (least_from active way a 0 now) here)
  where
    both : n ≤ least_length_from active way a 0 now → least_length_from active way a 0 now ≤ n → n ≡ least_length_from active way a 0 now
    both l m = omega (arith, l, m)

    low : (k : ℕ) (x : Device) → get_or xs k None ≡ Some x → k < SLOTS
    low k x p = elim (cases_lt k SLOTS) [ inl l ↦ l | inr past ↦ absurd (none-some x (sym (get_or_past xs k None (omega (arith, long))) ∙ p)) ]

    least : (k : ℕ) (d : Device) → get_or now k None ≡ Some d → reaches_at active (Some a) (0 + k) d ≡ true → n ≤ length_of way d
    least k d p r =
        let u = unseen e k (get_or xs k None) d (sym (now_at e xs now k is) ∙ p) in
        let l = low k u.0 u.1 in
        let at : 0 + k ≡ k = omega arith in
        let reached : reaches_at active (Some a) k u.0 ≡ true = ap (reaches_at active (Some a) k) (sym u.2) ∙ subst (λ i. reaches_at active (Some a) i d ≡ true) at r in
        let among : has slots k ≡ true = are k l ∙ (ap (in_slot (reaches_at active (Some a) k)) u.1 ∙ reached) in
        let few : n ≤ length_of way u.0 = subst (λ (o : Option Device). n ≤ length_in way o) u.1 (h.least k l among) in
        subst (λ m. n ≤ m) (sym (length_under way (kinds_in e k) u.0) ∙ ap (length_of way) (sym u.2)) few

    found : (k : ℕ) → k < SLOTS → (o : Option Device) → get_or xs k None ≡ o → has slots k ≡ true → length_in way o ≡ n
        → (j : ℕ) × (d : Device) × (get_or now j None ≡ Some d) × (reaches_at active (Some a) (0 + j) d ≡ true) × (length_of way d ≡ n)
    found k l None p among q = absurd (both_ways _ refl (ap (in_slot (reaches_at active (Some a) k)) (sym p) ∙ (sym (are k l) ∙ among)))
    found k l (Some x) p among q =
        let at : k ≡ 0 + k = omega arith in
        let reached : reaches_at active (Some a) k x ≡ true = ap (in_slot (reaches_at active (Some a) k)) (sym p) ∙ (sym (are k l) ∙ among) in
        (k, under (kinds_in e k) x, now_at e xs now k is ∙ ap (seen_in e k) p, subst (λ i. reaches_at active (Some a) i x ≡ true) at reached, length_under way (kinds_in e k) x ∙ q)

    here : IsLeastAt active way a 0 now n
    here = record {
      few = h.few;
      least = least;
      there = elim h.there [ inl e ↦ inl e | inr x ↦ inr (found x.0 x.1 (get_or xs x.0 None) refl x.2 x.3) ];
    }

-- of the slots that aren't left it is the least
pub record LeastSoFar (among left : SlotSet) (way : Direction) (places : List (Option Device)) (n : ℕ) : Type 0 where
  pub within : (s : ℕ) → s < SLOTS → has left s ≡ true → has among s ≡ true
  pub few : n ≤ REGISTERS
  pub least : (s : ℕ) → s < SLOTS → has among s ≡ true → has left s ≡ false → n ≤ length_in way (get_or places s None)
  pub there : (n ≡ REGISTERS) ⊎ ((s : ℕ) × (s < SLOTS) × (has among s ≡ true) × (length_in way (get_or places s None) ≡ n))

pub least_none : (among : SlotSet) (way : Direction) (places : List (Option Device)) → LeastSoFar among among way places REGISTERS
least_none among way places = record { within = λ s l t. t; few = omega arith; least = λ s l t n. absurd (both_ways _ n t); there = inl refl }

pub least_all : (among left : SlotSet) (way : Direction) (places : List (Option Device)) (n : ℕ) → LeastSoFar among left way places n → ((s : ℕ) → s < SLOTS → has left s ≡ false) → IsLeastLength among way places n
least_all among left way places n h none = record { few = h.few; least = λ s l t. h.least s l t (none s l); there = h.there }
