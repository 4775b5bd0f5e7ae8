-- Places that are kept in short: each slot holds what is kept for it.
use Rattle.std.proofs.Common.{◌≡◌, ℕ, zero, suc, ◌+◌, ◌<◌, ◌≤◌, ◌↔◌, ◌⊎◌, ◌==◌, false, true, ◌&&◌, ◌||◌, List, [], ◌∷◌, ◌++◌, get_or, set, length, length-set, take, Option, Some, None, is_some, option_map, Bool, Decides, inl, inr, refl, sym, ap, ◌∙◌, arith}
use Rattle.std.proofs.lemmas.Bool.{both_ways, cases_eq, cases_lt, cond-true, eq-eqb, false≢true}
use Rattle.std.proofs.lemmas.List.{ext_get_or, get_or_default, get_or-set_other, get_or-set_same, get_or-take, length-take-le}
use Rattle.i3c_base.specs.declared.range.TheConstants.{SLOTS}
use Rattle.i3c_base.specs.Numbers.{KindSet}
use Rattle.i3c_base.specs.State.{Device, in_slot, no_devices}
use Rattle.i3c_base.proofs.Lookups.{length-changed, length-no_devices, no_devices_at}
use Rattle.i3c_device.specs.declared.slot_set.SlotSet.{SlotSet}
use Rattle.i3c_device.specs.declared.enabled.Enabled.{Enabled}
use Rattle.i3c_device.specs.Enabling.{kinds_in, seen, seen_in, under}
use Rattle.i3c_device.specs.Keeping.{IsHeld, unpacked}
use Rattle.i3c_device.specs.SlotIndex.{IsSetOf}
use Rattle.i3c_device.specs.Sets.{has}
use Rattle.i3c_device.proofs.EachLaws.{changed_in}
use Rattle.i3c_device.proofs.FindLaws.{TakesOut, not_taken, still_in}
use Rattle.i3c_device.proofs.SameLaws.{AreSameBut, both_seen}
use Rattle.i3c_device.proofs.SeenLaws.{length_seen}
use Rattle.i3c_device.proofs.SeenWalks.{now_at}

pub length-unpacked : (kept : List (Option Device)) → length (unpacked kept) ≡ SLOTS
length-unpacked kept = length-changed (λ slot empty. get_or kept slot None) no_devices ∙ length-no_devices

pub unpacked_at : (kept : List (Option Device)) (s : ℕ) → s < SLOTS → get_or (unpacked kept) s None ≡ get_or kept s None
unpacked_at kept s l = changed_in (λ slot empty. get_or kept slot None) no_devices s (omega (arith, l, length-no_devices))

-- each place holds what is kept for it
pub unpacks : (kept places : List (Option Device)) → length places ≡ SLOTS → ((s : ℕ) → s < SLOTS → get_or kept s None ≡ get_or places s None) → unpacked kept ≡ places
unpacks kept places long each =
    ext_get_or None (unpacked kept) places (length-unpacked kept ∙ sym long)
    (λ s l. let low : s < SLOTS = omega (arith, l, length-unpacked kept) in unpacked_at kept s low ∙ each s low)

pub unpacks_nobody : (kept : List (Option Device)) → kept ≡ [] → unpacked kept ≡ no_devices
unpacks_nobody kept none = unpacks kept no_devices length-no_devices (λ s l. ap (λ xs. get_or xs s None) none ∙ sym (no_devices_at s))

-- two that keep the same
pub unpacked-alike : (kept more : List (Option Device)) → ((s : ℕ) → s < SLOTS → get_or kept s None ≡ get_or more s None) → unpacked kept ≡ unpacked more
unpacked-alike kept more each = unpacks kept (unpacked more) (length-unpacked more) (λ s l. each s l ∙ sym (unpacked_at more s l))

-- what is read at an index
pub read_at : (places : List (Option Device)) (i : ℕ) (place : Option Device) → i < length places → place ≡ get_or places i place → place ≡ get_or places i None
read_at places i place l e = e ∙ get_or_default places i place None l

-- nobody is kept beyond what is kept
pub beyond : (places : List (Option Device)) (i : ℕ) → length places ≤ i → get_or places i None ≡ None
beyond [] i l = refl
beyond (x ∷ xs) zero l = absurd (omega (arith, l))
beyond (x ∷ xs) (suc i) l = beyond xs i (omega (arith, l))

-- an empty place more
pub longer-at : (places more : List (Option Device)) → more ≡ places ++ None ∷ [] → (s : ℕ) → get_or more s None ≡ get_or places s None
longer-at places more is s = ap (λ xs. get_or xs s None) is ∙ go places s
  where
    go : (xs : List (Option Device)) (s : ℕ) → get_or (xs ++ None ∷ []) s None ≡ get_or xs s None
    go [] zero = refl
    go [] (suc s) = refl
    go (x ∷ xs) zero = refl
    go (x ∷ xs) (suc s) = go xs s

-- a slot more that holds what it is to hold
pub woken_more : (left next : SlotSet) (i j : ℕ) (now others after : List (Option Device)) (place : Option Device) → length now ≡ SLOTS → AreSameBut left now others → TakesOut i left next → j ≡ i → i < SLOTS
    → place ≡ get_or others j None → after ≡ set now j place → (length after ≡ SLOTS) × AreSameBut next after others
woken_more left next i j now others after place long h out at low is put = (
  ap length put ∙ (length-set now j place ∙ long),
  λ s l gone. ap (λ xs. get_or xs s None) put ∙ elim (cases_eq s j) [
    | inl e ↦ ap (λ k. get_or (set now j place) k None) e ∙ (get_or-set_same now j place None (omega (arith, at, low, long)) ∙ (is ∙ ap (λ k. get_or others k None) (sym e)))
    | inr ne ↦ get_or-set_other now j s place None ne ∙ h s l (sym (still_in i left next out s l (λ e. ne (e ∙ sym at))) ∙ gone)
  ],
)

-- a slot that nobody holds in either holds the same in both, and one that is held in either is held in both
alike_or_held : (o p : Option Device) → is_some o ≡ is_some p → (o ≡ p) ⊎ ((is_some p ≡ true) × (is_some o ≡ true))
alike_or_held None None h = inl refl
alike_or_held None (Some d) h = absurd (false≢true h)
alike_or_held (Some d) None h = absurd (false≢true (sym h))
alike_or_held (Some d) (Some e) h = inr (refl, refl)

-- the slots that aren't left hold the same in both, or somebody in both
abbrev pub AreWokenAlone : SlotSet → List (Option Device) → List (Option Device) → Type 0
AreWokenAlone left now kept = (s : ℕ) → s < SLOTS → has left s ≡ false → (get_or now s None ≡ get_or kept s None) ⊎ IsHeld kept now s

pub alone_none : (present there apart : SlotSet) (now kept : List (Option Device)) → ((s : ℕ) → s < SLOTS → has present s ≡ is_some (get_or now s None)) → ((s : ℕ) → s < SLOTS → has there s ≡ is_some (get_or kept s None))
    → ((s : ℕ) → s < SLOTS → (has apart s ≡ false) ↔ (has present s ≡ has there s)) → AreWokenAlone apart now kept
alone_none present there apart now kept is are apart_is s l out = alike_or_held (get_or now s None) (get_or kept s None) (sym (is s l) ∙ ((apart_is s l).0 out ∙ are s l))

pub alone_more : (left next : SlotSet) (i j : ℕ) (now kept after : List (Option Device)) (place : Option Device) → length now ≡ SLOTS → AreWokenAlone left now kept → TakesOut i left next → j ≡ i → i < SLOTS
    → place ≡ get_or kept j None → after ≡ set now j place → (length after ≡ SLOTS) × AreWokenAlone next after kept
alone_more left next i j now kept after place long h out at low is put = (
  ap length put ∙ (length-set now j place ∙ long),
  λ s l gone. elim (cases_eq s j) [
    | inl e ↦ inl (ap (λ xs. get_or xs s None) put
        ∙ (ap (λ k. get_or (set now j place) k None) e ∙ (get_or-set_same now j place None (omega (arith, at, low, long)) ∙ (is ∙ ap (λ k. get_or kept k None) (sym e)))))
    | inr ne ↦ (
        let same : get_or after s None ≡ get_or now s None = ap (λ xs. get_or xs s None) put ∙ get_or-set_other now j s place None ne in
        elim (h s l (sym (still_in i left next out s l (λ e. ne (e ∙ sym at))) ∙ gone)) [
          | inl alike ↦ inl (same ∙ alike)
          | inr held ↦ inr (held.0, ap is_some same ∙ held.1)
        ]
        )
  ],
)

-- the slots that are left are held in both
abbrev pub AreHeld : SlotSet → List (Option Device) → List (Option Device) → Type 0
AreHeld left now kept = (s : ℕ) → s < SLOTS → has left s ≡ true → IsHeld kept now s

pub held_both : (present there both : SlotSet) (now kept : List (Option Device)) → ((s : ℕ) → s < SLOTS → has present s ≡ is_some (get_or now s None)) → ((s : ℕ) → s < SLOTS → has there s ≡ is_some (get_or kept s None))
    → ((s : ℕ) → s < SLOTS → has both s ≡ (has present s && has there s)) → ((s : ℕ) → s < SLOTS → (get_or now s None ≡ get_or kept s None) ⊎ IsHeld kept now s) → AreSameBut both now kept × AreHeld both now kept
held_both present there both now kept is are both_is woken = (
  λ s l out. elim (woken s l) [
    | inl alike ↦ alike
    | inr held ↦ absurd (both_ways (has both s) out (both_is s l ∙ (λ j. (is s l ∙ held.1) j && (are s l ∙ held.0) j)))
  ],
  λ s l there_too. let h = and_both (has present s) (has there s) (sym (both_is s l) ∙ there_too) in (sym (are s l) ∙ h.1, sym (is s l) ∙ h.0),
)
  where
    and_both : (a b : Bool) → (a && b) ≡ true → (a ≡ true) × (b ≡ true)
    and_both true true h = (refl, refl)
    and_both true false h = absurd (false≢true h)
    and_both false b h = absurd (false≢true h)

pub held_more : (left next : SlotSet) (i : ℕ) (now kept after : List (Option Device)) (place : Option Device) → TakesOut i left next → after ≡ set now i place → AreHeld left now kept → AreHeld next after kept
held_more left next i now kept after place out put h s l there =
    let ne : s ≡ i → ⊥ = not_taken i left next out s l there in
    let held : IsHeld kept now s = h s l (sym (still_in i left next out s l ne) ∙ there) in
    (held.0, ap is_some (ap (λ xs. get_or xs s None) put ∙ get_or-set_other now i s place None ne) ∙ held.1)

-- a set that ends where another one does
pub spanned-less : (i span : ℕ) (left next all : SlotSet) → i < SLOTS → has left i ≡ true → ((s : ℕ) → s < i → has left s ≡ false) → TakesOut i left next
    → ((s : ℕ) → s < SLOTS → s < span → has left s ≡ false) → ((s : ℕ) → s < SLOTS → span ≤ s → has left s ≡ has all s)
    → ((s : ℕ) → s < SLOTS → s < i + 1 → has next s ≡ false) × ((s : ℕ) → s < SLOTS → i + 1 ≤ s → has next s ≡ has all s)
spanned-less i span left next all low there lowest out below above = (
  λ s l before. elim (cases_eq s i) [
    | inl e ↦ out s l ∙ cond-true (s == i) false (has left s) (eq-eqb s i e)
    | inr ne ↦ still_in i left next out s l ne ∙ lowest s (omega (arith, before, ne))
  ],
  λ s l after. still_in i left next out s l (λ e. absurd (omega (arith, after, e))) ∙ above s l (elim (cases_lt i span) [ inl l ↦ absurd (both_ways _ (below i low l) there) | inr h ↦ omega (arith, after, h) ]),
)

-- the front of some places, beyond which there is nobody
front_at : (n : ℕ) (now : List (Option Device)) (present : SlotSet) → length now ≡ SLOTS → n ≤ SLOTS → IsSetOf (λ d. true) present now → ((s : ℕ) → s < SLOTS → n ≤ s → has present s ≡ false)
    → (s : ℕ) → s < SLOTS → get_or (take n now) s None ≡ get_or now s None
front_at n now present long few is none s l = elim (cases_lt s n) [
  | inl before ↦ get_or-take n now s None before
  | inr after ↦ beyond (take n now) s (omega (arith, after, length-take-le n now (omega (arith, few, long)))) ∙ sym (nobody (get_or now s None) (sym (is s l) ∙ none s l after))
]
  where
    nobody : (o : Option Device) → in_slot (λ d. true) o ≡ false → o ≡ None
    nobody None h = refl
    nobody (Some d) h = absurd (both_ways _ h refl)

pub fronted : (n : ℕ) (now front : List (Option Device)) (present : SlotSet) → length now ≡ SLOTS → n ≤ SLOTS → IsSetOf (λ d. true) present now → ((s : ℕ) → s < SLOTS → n ≤ s → has present s ≡ false) → front ≡ take n now
    → (length front ≤ SLOTS) × ((s : ℕ) → s < SLOTS → has present s ≡ is_some (get_or front s None)) × (unpacked front ≡ now)
fronted n now front present long few is none cut = (
  omega (arith, ap length cut, length-take-le n now (omega (arith, few, long)), few),
  λ s l. is s l ∙ (somebody (get_or now s None) ∙ ap is_some (sym (at s l))),
  unpacks front now long at,
)
  where
    at : (s : ℕ) → s < SLOTS → get_or front s None ≡ get_or now s None
    at s l = ap (λ xs. get_or xs s None) cut ∙ front_at n now present long few is none s l

    somebody : (o : Option Device) → in_slot (λ d. true) o ≡ is_some o
    somebody None = refl
    somebody (Some d) = refl

-- whether anybody is there doesn't depend on the kinds with which devices are seen
pub some_seen : (e : Enabled) (xs now : List (Option Device)) (s : ℕ) → seen e xs ≡ now → is_some (get_or xs s None) ≡ is_some (get_or now s None)
some_seen e xs now s is = go (get_or xs s None) ∙ ap is_some (sym (now_at e xs now s is))
  where
    go : (o : Option Device) → is_some o ≡ is_some (seen_in e s o)
    go None = refl
    go (Some d) = refl

pub length-seen_kept : (e : Enabled) (xs now : List (Option Device)) → seen e xs ≡ now → length xs ≡ SLOTS → length now ≡ SLOTS
length-seen_kept e xs now is long = ap length (sym is) ∙ (length_seen e xs ∙ long)

-- a test of the device in a slot of both, with the kinds of the slot
pub decided : (e more : Enabled) (xs ys now others : List (Option Device)) (s i : ℕ) (kinds twins : KindSet) (o p : Option Device) (b : Bool) → seen e xs ≡ now → seen more ys ≡ others → s ≡ i
    → kinds ≡ kinds_in e i → twins ≡ kinds_in more i → o ≡ get_or xs s None → p ≡ get_or ys s None → Decides b (option_map (under kinds) o ≡ option_map (under twins) p) → Decides b (get_or now s None ≡ get_or others s None)
decided e more xs ys now others s i kinds twins o p b is are at own its here there h =
    both_seen e more xs ys now others s b is are (λ t. sym one ∙ (h.0 t ∙ two), λ same. h.1 (one ∙ (same ∙ sym two)))
  where
    one : option_map (under kinds) o ≡ seen_in e s (get_or xs s None)
    one j = option_map (under ((own ∙ ap (kinds_in e) (sym at)) j)) (here j)

    two : option_map (under twins) p ≡ seen_in more s (get_or ys s None)
    two j = option_map (under ((its ∙ ap (kinds_in more) (sym at)) j)) (there j)

-- ---- devices that are compared where they are held

-- a slot that holds somebody is one of those that are kept
pub held_inside : (kept now : List (Option Device)) (i : ℕ) → unpacked kept ≡ now → i < SLOTS → is_some (get_or now i None) ≡ true → i < length kept
held_inside kept now i is low held = elim (cases_lt i (length kept)) [
  | inl inside ↦ inside
  | inr over ↦
      absurd (false≢true (ap is_some (sym (beyond kept i over) ∙ (sym (unpacked_at kept i low) ∙ ap (λ places. get_or places i None) is)) ∙ held))
]

-- of the slots among these, those that aren't left hold the same in both
pub record AreWalked (among left : SlotSet) (now others : List (Option Device)) : Type 0 where
  pub within : (s : ℕ) → s < SLOTS → has left s ≡ true → has among s ≡ true
  pub same : (s : ℕ) → s < SLOTS → has among s ≡ true → has left s ≡ false → get_or now s None ≡ get_or others s None

pub walked_none : (among : SlotSet) (now others : List (Option Device)) → AreWalked among among now others
walked_none among now others = record { within = λ s l t. t; same = λ s l t gone. absurd (both_ways (has among s) gone t) }

pub walked_more : (among left next : SlotSet) (i : ℕ) (now others : List (Option Device)) → AreWalked among left now others → TakesOut i left next → get_or now i None ≡ get_or others i None → AreWalked among next now others
walked_more among left next i now others h out same = record {
  within = λ s l t. h.within s l (sym (still_in i left next out s l (not_taken i left next out s l t)) ∙ t);
  same = λ s l t gone. elim (cases_eq s i) [
    | inl e ↦ ap (λ k. get_or now k None) e ∙ (same ∙ sym (ap (λ k. get_or others k None) e))
    | inr ne ↦ h.same s l t (sym (still_in i left next out s l ne) ∙ gone)
  ];
}

-- whoever is there is that one
pub some_own : (d e : Device) → Some d ≡ Some e → d ≡ e
some_own d e h = cc

-- a device is the same as another one with its kinds, if it is with others
pub same_under : (d e : Device) (kinds : KindSet) → d.kinds ≡ e.kinds → under kinds d ≡ under kinds e → d ≡ e
same_under d e kinds own h j = record (h j) { kinds = own j }

-- all is seen alike where the same slots are held, with the same kinds, by the same devices
pub all_seen : (e more : Enabled) (xs ys now others : List (Option Device)) → seen e xs ≡ now → seen more ys ≡ others → length now ≡ SLOTS → length others ≡ SLOTS
    → ((s : ℕ) → s < SLOTS → is_some (get_or xs s None) ≡ is_some (get_or ys s None)) → ((s : ℕ) → s < SLOTS → is_some (get_or xs s None) ≡ true → kinds_in e s ≡ kinds_in more s)
    → ((kinds : KindSet) (s : ℕ) → s < SLOTS → is_some (get_or xs s None) ≡ true → option_map (under kinds) (get_or xs s None) ≡ option_map (under kinds) (get_or ys s None)) → now ≡ others
all_seen e more xs ys now others is are long wide there kinds same = ext_get_or None now others (long ∙ sym wide)
    (λ s l. let low : s < SLOTS = omega (arith, l, long) in
    now_at e xs now s is ∙ (go s (get_or xs s None) (get_or ys s None) (there s low) (kinds s low) (λ own. same own s low) ∙ sym (now_at more ys others s are)))
  where
    go : (s : ℕ) (o p : Option Device) → is_some o ≡ is_some p → (is_some o ≡ true → kinds_in e s ≡ kinds_in more s) → ((own : KindSet) → is_some o ≡ true → option_map (under own) o ≡ option_map (under own) p) → seen_in e s o ≡ seen_in more s p
    go s None None t k h = refl
    go s None (Some d) t k h = absurd (false≢true t)
    go s (Some c) None t k h = absurd (false≢true (sym t))
    go s (Some c) (Some d) t k h = h (kinds_in e s) refl ∙ ap (λ own. option_map (under own) (Some d)) (k refl)

-- what is seen alike in a slot
seen_at : (e more : Enabled) (xs ys now others : List (Option Device)) (s : ℕ) → seen e xs ≡ now → seen more ys ≡ others → now ≡ others → seen_in e s (get_or xs s None) ≡ seen_in more s (get_or ys s None)
seen_at e more xs ys now others s is are same = sym (now_at e xs now s is) ∙ (ap (λ places. get_or places s None) same ∙ now_at more ys others s are)

-- has the same kinds
pub seen_kinds : (e more : Enabled) (xs ys now others : List (Option Device)) (s : ℕ) → seen e xs ≡ now → seen more ys ≡ others → now ≡ others → is_some (get_or xs s None) ≡ true → kinds_in e s ≡ kinds_in more s
seen_kinds e more xs ys now others s is are same = go (get_or xs s None) (get_or ys s None) (seen_at e more xs ys now others s is are same)
  where
    go : (o p : Option Device) → seen_in e s o ≡ seen_in more s p → is_some o ≡ true → kinds_in e s ≡ kinds_in more s
    go None p h t = absurd (false≢true t)
    go (Some c) None h t = absurd (false≢true (sym (ap is_some h)))
    go (Some c) (Some d) h t = let both : under (kinds_in e s) c ≡ under (kinds_in more s) d = cc in ap (λ (one : Device). one.kinds) both

-- and is the same with any kinds
pub seen_same : (e more : Enabled) (xs ys now others : List (Option Device)) (kinds : KindSet) (s : ℕ) → seen e xs ≡ now → seen more ys ≡ others → now ≡ others
    → option_map (under kinds) (get_or xs s None) ≡ option_map (under kinds) (get_or ys s None)
seen_same e more xs ys now others kinds s is are same =
    sym (over e (get_or xs s None)) ∙ (ap (option_map (under kinds)) (seen_at e more xs ys now others s is are same) ∙ over more (get_or ys s None))
  where
    over : (enabled : Enabled) (o : Option Device) → option_map (under kinds) (seen_in enabled s o) ≡ option_map (under kinds) o
    over enabled None = refl
    over enabled (Some d) = refl

-- one of two sets has a slot, or neither
pub neither : (a b : Bool) → (a || b) ≡ false → (a ≡ false) × (b ≡ false)
neither false b h = (refl, h)
neither true b h = absurd (false≢true (sym h))

pub not_both : (a b : Bool) → (a && b) ≡ false → b ≡ true → a ≡ false
not_both false b h t = refl
not_both true b h t = absurd (both_ways b h t)

pub but_one : (a b : Bool) → (b ≡ true → a ≡ false) → (a && b) ≡ false
but_one false b h = refl
but_one true false h = refl
but_one true true h = h refl
