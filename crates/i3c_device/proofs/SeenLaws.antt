-- Devices as they are seen with their kinds: what leaves the kinds as they are is seen as it happens.
use Rattle.std.proofs.Common.{◌≡◌, ℕ, zero, suc, ◌+◌, ◌<◌, Bool, true, false, ◌==◌, if◌then◌else◌, List, [], ◌∷◌, length, get_or, set, Option, Some, None, option_map, inl, inr, refl, sym, ap, subst, ◌∙◌, arith, length-set, zero-add}
use Rattle.std.proofs.lemmas.Bool.{cases_eq, cond-true, cond-false, eq-eqb, ne_eqb}
use Rattle.std.proofs.lemmas.List.{ext_get_or, get_or-set_other, get_or-set_same}
use Rattle.i3c_base.specs.declared.range.TheConstants.{SLOTS}
use Rattle.i3c_base.specs.Numbers.{KindSet}
use Rattle.i3c_base.specs.Places.{changed, changed_from}
use Rattle.i3c_base.specs.State.{Device, in_slot, no_devices}
use Rattle.i3c_base.proofs.Lookups.{changed_at, length-changed, no_devices_at}
use Rattle.i3c_device.specs.declared.enabled.Enabled.{Enabled}
use Rattle.i3c_device.specs.declared.slot_set.SlotSet.{SlotSet}
use Rattle.i3c_device.specs.Enabling.{kinds_in, seen, seen_in, under}
use Rattle.i3c_device.specs.Finding.{within}
use Rattle.i3c_device.specs.SlotIndex.{IsSetOf}
use Rattle.i3c_device.specs.Sets.{has}
use Rattle.i3c_device.proofs.EachLaws.{all_changed, changed_in, narrowed, spared}

-- what is seen in a slot
pub seen_at : (e : Enabled) (xs : List (Option Device)) (s : ℕ) → get_or (seen e xs) s None ≡ seen_in e s (get_or xs s None)
seen_at e xs s = changed_at (seen_in e) xs s None refl

pub length_seen : (e : Enabled) (xs : List (Option Device)) → length (seen e xs) ≡ length xs
length_seen e xs = length-changed (seen_in e) xs

-- each slot changed, and perhaps its kinds
pub seen_turned : (e more : Enabled) (f : ℕ → Option Device → Option Device) (xs ys : List (Option Device)) → length xs ≡ SLOTS → length ys ≡ SLOTS
    → ((s : ℕ) → s < SLOTS → seen_in more s (get_or ys s None) ≡ f s (seen_in e s (get_or xs s None))) → seen more ys ≡ changed f (seen e xs)
seen_turned e more f xs ys long same each =
    all_changed f (seen e xs) (seen more ys) (length_seen more ys ∙ (same ∙ sym (length_seen e xs ∙ long)))
    (λ k l. seen_at more ys k ∙ (each k (omega (arith, l, length_seen e xs, long)) ∙ ap (f k) (sym (seen_at e xs k))))

-- a change that neither reads the kinds nor changes them
abbrev pub IsBlind : (ℕ → Option Device → Option Device) → Type 0
IsBlind f = (kinds : KindSet) (s : ℕ) (o : Option Device) → option_map (under kinds) (f s o) ≡ f s (option_map (under kinds) o)

pub seen_within : (e : Enabled) (among : SlotSet) (f : ℕ → Option Device → Option Device) (xs ys : List (Option Device)) → IsBlind f → length xs ≡ SLOTS → ys ≡ changed (within among f) xs → seen e ys ≡ changed (within among f) (seen e xs)
seen_within e among f xs ys blind long is =
    seen_turned e e (within among f) xs ys long (ap length is ∙ (length-changed (within among f) xs ∙ long))
    (λ s l. ap (seen_in e s) (ap (λ zs. get_or zs s None) is ∙ in_slot_s s l) ∙ go (has among s) s (get_or xs s None))
  where
    in_slot_s : (s : ℕ) → s < SLOTS → get_or (changed (within among f) xs) s None ≡ within among f s (get_or xs s None)
    in_slot_s s l = changed_in (within among f) xs s (omega (arith, l, long))

    go : (b : Bool) (s : ℕ) (o : Option Device) → seen_in e s (if b then f s o else o) ≡ (if b then f s (seen_in e s o) else seen_in e s o)
    go true s o = blind (kinds_in e s) s o
    go false s o = refl

-- one slot changed, and not its kinds
changed_from_set : (f : ℕ → Option Device → Option Device) (n : ℕ) (xs : List (Option Device)) (i : ℕ) (place : Option Device) → changed_from n f (set xs i place) ≡ set (changed_from n f xs) i (f (i + n) place)
changed_from_set f n [] i place = refl
changed_from_set f n (x ∷ xs) zero place = λ t. f (sym (zero-add n) t) place ∷ changed_from (suc n) f xs
changed_from_set f n (x ∷ xs) (suc i) place =
    let same : i + suc n ≡ suc i + n = omega arith in
    ap (λ ys. f n x ∷ ys) (changed_from_set f (suc n) xs i place ∙ ap (λ k. set (changed_from (suc n) f xs) i (f k place)) same)

pub seen_put : (e : Enabled) (xs : List (Option Device)) (i : ℕ) (place : Option Device) → seen e (set xs i place) ≡ set (seen e xs) i (seen_in e i place)
seen_put e xs i place = let same : i + 0 ≡ i = omega arith in changed_from_set (seen_in e) 0 xs i place ∙ ap (λ k. set (seen e xs) i (seen_in e k place)) same

-- an update in one slot
pub updated_seen : (e : Enabled) (f : ℕ → Option Device → Option Device) (xs ys now : List (Option Device)) (i : ℕ) → IsBlind f → seen e xs ≡ now → ys ≡ set xs i (f i (get_or xs i None)) → seen e ys ≡ set now i (f i (get_or now i None))
updated_seen e f xs ys now i blind is happened =
    ap (seen e) happened ∙ (seen_put e xs i (f i (get_or xs i None)) ∙ (ap (set (seen e xs) i) (blind (kinds_in e i) i (get_or xs i None) ∙ ap (f i) (sym (seen_at e xs i)))
    ∙ ap (λ zs. set zs i (f i (get_or zs i None))) is))

-- what enters a slot, in which these kinds are enabled from then on
pub placed_seen : (e more : Enabled) (xs ys now : List (Option Device)) (i j : ℕ) (kinds : KindSet) (place : Option Device) → length xs ≡ SLOTS → i < SLOTS → j ≡ i
    → ((s : ℕ) → s < SLOTS → kinds_in more s ≡ (if s == j then kinds else kinds_in e s)) → seen e xs ≡ now → ys ≡ set xs i place → seen more ys ≡ set now i (option_map (under kinds) place)
placed_seen e more xs ys now i j kinds place long low at anew is put =
    ap (seen more) put ∙ (seen_put more xs i place ∙ ((λ t. set (seen more xs) i (option_map (under (here t)) place))
    ∙ (ext_get_or None (set (seen more xs) i (option_map (under kinds) place)) (set (seen e xs) i (option_map (under kinds) place)) lengths each ∙ ap (λ zs. set zs i (option_map (under kinds) place)) is)))
  where
    here : kinds_in more i ≡ kinds
    here = anew i low ∙ cond-true (i == j) kinds (kinds_in e i) (eq-eqb i j (sym at))

    lengths : length (set (seen more xs) i (option_map (under kinds) place)) ≡ length (set (seen e xs) i (option_map (under kinds) place))
    lengths = length-set (seen more xs) i (option_map (under kinds) place) ∙ (length_seen more xs ∙ sym (length-set (seen e xs) i (option_map (under kinds) place) ∙ length_seen e xs))

    other : (s : ℕ) → s < SLOTS → (s ≡ i → ⊥) → get_or (seen more xs) s None ≡ get_or (seen e xs) s None
    other s l ne =
        seen_at more xs s
        ∙ (ap (λ own. option_map (under own) (get_or xs s None)) (anew s l ∙ cond-false (s == j) kinds (kinds_in e s) (ne_eqb s j (λ same. ne (same ∙ at))))
        ∙ sym (seen_at e xs s))

    each : (s : ℕ) → s < length (set (seen more xs) i (option_map (under kinds) place)) → get_or (set (seen more xs) i (option_map (under kinds) place)) s None ≡ get_or (set (seen e xs) i (option_map (under kinds) place)) s None
    each s m = elim (cases_eq s i) [
      | inl e2 ↦
          ap (λ k. get_or (set (seen more xs) i (option_map (under kinds) place)) k None) e2
          ∙ (get_or-set_same (seen more xs) i (option_map (under kinds) place) None (omega (arith, low, long, length_seen more xs))
          ∙ sym (ap (λ k. get_or (set (seen e xs) i (option_map (under kinds) place)) k None) e2 ∙ get_or-set_same (seen e xs) i (option_map (under kinds) place) None (omega (arith, low, long, length_seen e xs))))
      | inr ne ↦
          get_or-set_other (seen more xs) i s (option_map (under kinds) place) None ne
          ∙ (other s (omega (arith, m, long, length-set (seen more xs) i (option_map (under kinds) place), length_seen more xs)) ne ∙ sym (get_or-set_other (seen e xs) i s (option_map (under kinds) place) None ne))
    ]

-- a device that enters it
pub entered_seen : (e more : Enabled) (xs ys now : List (Option Device)) (i j : ℕ) (kinds : KindSet) (d : Device) → length xs ≡ SLOTS → i < SLOTS → j ≡ i
    → ((s : ℕ) → s < SLOTS → kinds_in more s ≡ (if s == j then kinds else kinds_in e s)) → seen e xs ≡ now → ys ≡ set xs i (Some d) → seen more ys ≡ set now i (Some (under kinds d))
entered_seen e more xs ys now i j kinds d long low at anew is put = placed_seen e more xs ys now i j kinds (Some d) long low at anew is put

-- a test that doesn't read the kinds
pub set_seen : (e : Enabled) (test : Device → Bool) (slots : SlotSet) (xs : List (Option Device)) → ((kinds : KindSet) (d : Device) → test (under kinds d) ≡ test d) → IsSetOf test slots xs → IsSetOf test slots (seen e xs)
set_seen e test slots xs blind is s l = is s l ∙ sym (ap (in_slot test) (seen_at e xs s) ∙ go (get_or xs s None))
  where
    go : (o : Option Device) → in_slot test (seen_in e s o) ≡ in_slot test o
    go None = refl
    go (Some d) = blind (kinds_in e s) d

pub set_now : (e : Enabled) (test : Device → Bool) (slots : SlotSet) (xs now : List (Option Device)) → ((kinds : KindSet) (d : Device) → test (under kinds d) ≡ test d) → seen e xs ≡ now → IsSetOf test slots xs → IsSetOf test slots now
set_now e test slots xs now blind is of = subst (IsSetOf test slots) is (set_seen e test slots xs blind of)

-- a change of some slots that has the wanted effect on each
pub narrowed_seen : (e : Enabled) (f g : ℕ → Option Device → Option Device) (among : SlotSet) (xs ys now : List (Option Device)) → length xs ≡ SLOTS → IsBlind f → seen e xs ≡ now → ys ≡ changed (within among f) xs
    → ((s : ℕ) → s < SLOTS → within among f s (get_or now s None) ≡ g s (get_or now s None)) → seen e ys ≡ changed g now
narrowed_seen e f g among xs ys now long blind is each same =
    narrowed f g among now (seen e ys) (sym (ap length is) ∙ (length_seen e xs ∙ long)) (seen_within e among f xs ys blind long each ∙ ap (changed (within among f)) is) same

-- a change that leaves the other slots as they are
pub spared_seen : (e : Enabled) (f : ℕ → Option Device → Option Device) (test : Device → Bool) (among : SlotSet) (xs ys now : List (Option Device)) → length xs ≡ SLOTS → ((kinds : KindSet) (d : Device) → test (under kinds d) ≡ test d)
    → IsBlind f → IsSetOf test among xs → ((s : ℕ) (o : Option Device) → in_slot test o ≡ false → f s o ≡ o) → seen e xs ≡ now → ys ≡ changed (within among f) xs → seen e ys ≡ changed f now
spared_seen e f test among xs ys now long same blind of spares is each =
    spared f test among now (seen e ys) (sym (ap length is) ∙ (length_seen e xs ∙ long)) (set_now e test among xs now same is of) spares (seen_within e among f xs ys blind long each ∙ ap (changed (within among f)) is)

-- empty slots
pub seen_none : (e : Enabled) → seen e no_devices ≡ no_devices
seen_none e =
    ext_get_or None (seen e no_devices) no_devices (length_seen e no_devices)
    (λ s l. seen_at e no_devices s ∙ (ap (seen_in e s) (no_devices_at s) ∙ sym (no_devices_at s)))

-- what rests in a slot enters it, with its kinds
pub woken_seen : (e more there : Enabled) (xs ys now kept resting : List (Option Device)) (i j : ℕ) (kinds : KindSet) (place : Option Device) → length xs ≡ SLOTS → i < SLOTS → j ≡ i
    → ((s : ℕ) → s < SLOTS → kinds_in more s ≡ (if s == j then kinds else kinds_in e s)) → seen e xs ≡ now → seen there kept ≡ resting → kinds ≡ kinds_in there j → place ≡ get_or kept i None → ys ≡ set xs i place
    → seen more ys ≡ set now i (get_or resting i None)
woken_seen e more there xs ys now kept resting i j kinds place long low at anew is rests own held put =
    placed_seen e more xs ys now i j kinds place long low at anew is put ∙ ap (set now i) same
  where
    same : option_map (under kinds) place ≡ get_or resting i None
    same = (λ t. option_map (under ((own ∙ ap (kinds_in there) at) t)) (held t)) ∙ (sym (seen_at there kept i) ∙ ap (λ zs. get_or zs i None) rests)
