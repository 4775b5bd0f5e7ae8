-- A start: one address is left beside the static ones, and the main controller takes it.
use Rattle.std.proofs.Common.{◌≡◌, ℕ, zero, suc, ◌+◌, ◌≤◌, ◌<◌, Bool, true, false, cond, not, ◌&&◌, ◌||◌, ◌==◌, nat_le, nat_cmp, List, [], ◌∷◌, length, get_or, replicate, set, Option, Some, None, option_map, is_some, count_by, inl, inr, sym, refl, ap, ◌∙◌, subst, arith}
use Rattle.std.specs.BTreeMap.{BTreeMap, Updates, get}
use Rattle.std.specs.Option.{IsSome}
use Rattle.std.specs.List.{range_with_len}
use Rattle.std.proofs.lemmas.Bool.{and_parts, cases_eq, cases_lt, eqb-false, false≢true, leb-true}
use Rattle.std.proofs.lemmas.List.{length-map}
use Rattle.std.proofs.lemmas.List.Sums.{sum_by-cons}
use Rattle.std.proofs.Math.ListN.{get_or-map}
use Rattle.i3c_base.specs.declared.device.Setup.{Setup}
use Rattle.i3c_base.specs.declared.device.LegacyTarget.{LegacyTarget}
use Rattle.i3c_base.specs.declared.identity.Identity.{Identity}
use Rattle.i3c_base.specs.declared.identity.Lvr.{Lvr}
use Rattle.i3c_base.specs.declared.range.TheConstants.{ADDRESSES, SLOTS}
use Rattle.i3c_base.specs.declared.requests.Record.{Record}
use Rattle.i3c_base.specs.State.{Board, Device, Entry, IsBoard, IsPickIn, IsPickableIn, IsStart, IsUsable, attached, entry_of, fixed_of, is_usable, no_devices, no_entries, no_raises, legacy_target_of, legacy_targets_of}
use Rattle.i3c_base.proofs.Lookups.{no_entries_at}
use Rattle.i3c_model.specs.Views.{AreIdentities, AreTargets, IsKeyedBelow, places_of}
use Rattle.i3c_model.proofs.PlaceLaws.{apart, places_are, places_none, places_put}

not_true : (b : Bool) → not b ≡ true → b ≡ false
not_true true h = sym h
not_true false h = refl

usable_if : (a : ℕ) → is_usable a ≡ true → IsUsable a
usable_if a h =
    let p = and_parts (nat_le 0x08 a) (nat_le a 0x77 && (not (a == 0x3E) && (not (a == 0x5E) && (not (a == 0x6E) && not (a == 0x76))))) h in
    let q = and_parts (nat_le a 0x77) (not (a == 0x3E) && (not (a == 0x5E) && (not (a == 0x6E) && not (a == 0x76)))) p.1 in
    let r = and_parts (not (a == 0x3E)) (not (a == 0x5E) && (not (a == 0x6E) && not (a == 0x76))) q.1 in
    let s = and_parts (not (a == 0x5E)) (not (a == 0x6E) && not (a == 0x76)) r.1 in
    let t = and_parts (not (a == 0x6E)) (not (a == 0x76)) s.1 in
    (leb-true 0x08 a p.0, leb-true a 0x77 q.0, eqb-false a 0x3E (not_true (a == 0x3E) r.0), eqb-false a 0x5E (not_true (a == 0x5E) s.0), eqb-false a 0x6E (not_true (a == 0x6E) t.0), eqb-false a 0x76 (not_true (a == 0x76) t.1))

pub count_cons : {A : Type 0} (p : A → Bool) (x : A) (xs : List A) → count_by p (x ∷ xs) ≡ cond (p x) 1 0 + count_by p xs
count_cons p x xs = sum_by-cons (λ y. cond (p y) 1 0) x xs

counted_if : {A : Type 0} (p : A → Bool) (q : ℕ → Bool) (x : A) (n : ℕ) → (q n ≡ true → p x ≡ true) → cond (q n) 1 0 ≤ cond (p x) 1 0
counted_if p q x n h = go (p x) (q n) h
  where
    go : (b c : Bool) → (c ≡ true → b ≡ true) → cond c 1 0 ≤ cond b 1 0
    go true true h = omega arith
    go true false h = omega arith
    go false true h = absurd (false≢true (h refl))
    go false false h = omega arith

-- as many places are taken as pass a test that no free place passes
count_at_least : {A : Type 0} (q : ℕ → Bool) (m n : ℕ) (xs : List (Option A)) → ((k : ℕ) → k < m → q (n + k) ≡ true → is_some (get_or xs k None) ≡ true) → count_by q (range_with_len n m) ≤ count_by is_some xs
count_at_least {A} q zero n xs h = omega arith
count_at_least {A} q (suc m) n [] h =
    let first : cond (q n) 1 0 ≤ 0 = counted_if {A = ℕ} (λ x. false) q 0 n (λ t. h 0 (omega arith) (ap q (let e : n + 0 ≡ n = omega arith in e) ∙ t)) in
    let rest = count_at_least {A = A} q m (n + 1) [] (λ k l t. h (suc k) (omega arith) (ap q (let e : n + suc k ≡ n + 1 + k = omega arith in e) ∙ t)) in
    omega (arith, first, rest, count_cons q n (range_with_len (n + 1) m))
count_at_least {A} q (suc m) n (x ∷ xs) h =
    let first = counted_if is_some q x n (λ t. h 0 (omega arith) (ap q (let e : n + 0 ≡ n = omega arith in e) ∙ t)) in
    let rest = count_at_least q m (n + 1) xs (λ k l t. h (suc k) (omega arith) (ap q (let e : n + suc k ≡ n + 1 + k = omega arith in e) ∙ t)) in
    omega (arith, first, rest, count_cons q n (range_with_len (n + 1) m), count_cons is_some x xs)

usable_count : count_by is_usable (range_with_len 0 128) ≡ 108
usable_count = refl

-- no address is given in an empty table
pub none_given : (t : BTreeMap ℕ Entry) → t.entries ≡ [] → places_of ADDRESSES t ≡ no_entries
unfolding no_entries
none_given t e = places_none ADDRESSES t e

-- as many numbers pass a test as pass one of two others, if each that passes it passes one of these
either_counts : (b c d : Bool) → (b ≡ true → (c || d) ≡ true) → cond b 1 0 ≤ cond c 1 0 + cond d 1 0
either_counts true true d h = grind arith
either_counts true false true h = omega arith
either_counts true false false h = absurd (false≢true (h refl))
either_counts false c d h = omega arith

count_either : (q r t : ℕ → Bool) → ((k : ℕ) → q k ≡ true → (r k || t k) ≡ true) → (xs : List ℕ) → count_by q xs ≤ count_by r xs + count_by t xs
count_either q r t h [] = omega arith
count_either q r t h (x ∷ xs) =
    let first = either_counts (q x) (r x) (t x) (h x) in
    let rest = count_either q r t h xs in
    omega (arith, first, rest, count_cons q x xs, count_cons r x xs, count_cons t x xs)

-- the places that aren't empty
abbrev stands_in : {A : Type 0} → List (Option A) → ℕ → Bool
stands_in places k = is_some (get_or places k None)

count_standing : {A : Type 0} (places : List (Option A)) → count_by (stands_in places) (range_with_len 0 128) ≤ count_by is_some places
count_standing places = count_at_least (stands_in places) 128 0 places (λ k l u. ap (stands_in places) (let z : k ≡ 0 + k = omega arith in z) ∙ u)

-- few legacy targets and declared identities leave an address
pub one_is_left : (t : BTreeMap ℕ Entry) (board : Board) → t.entries ≡ [] → count_by is_some board.legacy ≤ 16 → count_by is_some board.declared ≤ 16
    → ((a : ℕ) → IsPickableIn (places_of ADDRESSES t) (legacy_targets_of board.legacy) board.declared a → ⊥) → ⊥
one_is_left t board e few few_declared none =
    let many = count_either is_usable (stands_in board.legacy) (stands_in board.declared) taken (range_with_len 0 128) in
    let legacy = count_standing board.legacy in
    let declared = count_standing board.declared in
    omega (arith, many, legacy, declared, few, few_declared, usable_count)
  where
    taken_by : (k : ℕ) (o : Option Lvr) (i : Option Identity) → get_or board.legacy k None ≡ o → get_or board.declared k None ≡ i → is_usable k ≡ true → (is_some o || is_some i) ≡ true
    taken_by k (Some v) i is there u = refl
    taken_by k None (Some j) is there u = refl
    taken_by k None None is there u =
        absurd (none k (usable_if k u, ap (λ places. get_or places k None) (none_given t e) ∙ no_entries_at k, get_or-map (option_map legacy_target_of) board.legacy k None ∙ ap (option_map legacy_target_of) is, there))

    taken : (k : ℕ) → is_usable k ≡ true → (stands_in board.legacy k || stands_in board.declared k) ≡ true
    taken k u = taken_by k (get_or board.legacy k None) (get_or board.declared k None) refl refl u

no_devices_from : (m : BTreeMap ℕ Device) → m.entries ≡ [] → places_of SLOTS m ≡ no_devices
unfolding no_devices
no_devices_from m e = places_none SLOTS m e

-- the main controller alone, with its address
seated : (fixed : Option ℕ) (main : Setup) (a : ℕ) → set no_devices 0 (Some (record (attached fixed main) { address = Some a }))
    ≡ set (set no_devices 0 (Some (attached fixed main))) 0 (option_map (λ (d : Device). record d { address = Some a }) (get_or (set no_devices 0 (Some (attached fixed main))) 0 None))
unfolding no_devices
seated fixed main a = refl

-- no slot has raised
pub none_raised : (raised : List ℕ) → raised ≡ replicate SLOTS 0 → raised ≡ no_raises
unfolding no_raises
none_raised raised e = e

-- the device and the entry of the main controller
abbrev pub main_device : Board → Setup → ℕ → Device
main_device board main a = record (attached (fixed_of board.declared main.identity) main) { address = Some a }

abbrev pub main_entry : Board → Setup → Entry
main_entry board main = entry_of board.declared main.identity

pub started : (main : Setup) (board : Board) (legacy : BTreeMap ℕ LegacyTarget) (identities : BTreeMap ℕ Identity) (m devices : BTreeMap ℕ Device) (t given : BTreeMap ℕ Entry) (a active : ℕ) (raised : List ℕ) (records : List Record)
    → AreTargets board.legacy legacy → AreIdentities board.declared identities → IsBoard board → raised ≡ no_raises → m.entries ≡ [] → t.entries ≡ [] → records ≡ [] → active ≡ 0 → Updates nat_cmp m devices active (Some (main_device board main a))
    → Updates nat_cmp t given a (Some (main_entry board main)) → IsPickIn (places_of ADDRESSES t) (places_of ADDRESSES legacy) (places_of ADDRESSES identities) a
    → IsStart main board (record {
      devices = places_of SLOTS devices;
      raised = raised;
      active = active;
      legacy = places_of ADDRESSES legacy;
      declared = places_of ADDRESSES identities;
      given = places_of ADDRESSES given;
      in_session = false;
      listed = false;
      records = records;
    })
started main board legacy identities m devices t given a active raised records targets declared is_board no_raise no_device no_entry no_record zeroth put entered pick =
    let small : a < ADDRESSES = let usable = pick.0.0.1 in omega arith in
    let first : active < SLOTS = omega (arith, zeroth) in
    let devices_are = places_put SLOTS m devices active (Some (main_device board main a)) first put.1 put.2
    ∙ (ap (λ places. set places active (Some (main_device board main a))) (no_devices_from m no_device)
    ∙ (ap (λ s. set no_devices s (Some (main_device board main a))) zeroth ∙ seated (fixed_of board.declared main.identity) main a)) in
    let given_are = places_put ADDRESSES t given a (Some (main_entry board main)) small entered.1 entered.2
    ∙ ap (λ places. set places a (Some (main_entry board main))) (none_given t no_entry) in
    let of_targets : IsPickIn no_entries (legacy_targets_of board.legacy) (places_of ADDRESSES identities) a =
    subst (λ places. IsPickIn no_entries places (places_of ADDRESSES identities) a) targets.1
    (subst (λ places. IsPickIn places (places_of ADDRESSES legacy) (places_of ADDRESSES identities) a) (none_given t no_entry) pick) in (
      a,
      subst (λ places. IsPickIn no_entries (legacy_targets_of board.legacy) places a) declared.1 of_targets,
      λ k. record {
        devices = devices_are k;
        raised = no_raise k;
        active = zeroth k;
        legacy = targets.1 k;
        declared = declared.1 k;
        given = given_are k;
        in_session = false;
        listed = false;
        records = no_record k;
      },
      is_board,
    )

-- the map has the values at the places below n of a list, each changed by f, and nothing above
pub record IsFilled {A B : Type 0} (f : Option A → Option B) (xs : List (Option A)) (n : ℕ) (m : BTreeMap ℕ B) : Type 0 where
  pub below : (a : ℕ) → a < n → get nat_cmp m a ≡ f (get_or xs a None)
  pub above : (a : ℕ) → n ≤ a → get nat_cmp m a ≡ None
  pub long : 0 < n → length xs ≡ ADDRESSES

module _ {A B : Type 0} (f : Option A → Option B) where
  pub filled_skip : (xs : List (Option A)) (n a : ℕ) (m : BTreeMap ℕ B) → IsFilled f xs n m → length xs ≡ ADDRESSES → a ≡ n → f (get_or xs a None) ≡ None → IsFilled f xs (n + 1) m
  filled_skip xs n a m h long same none = record {
    below = λ b l. elim (cases_eq b n) [
      | inl e ↦ h.above b (omega arith) ∙ sym (ap (λ k. f (get_or xs k None)) (e ∙ sym same) ∙ none)
      | inr ne ↦ h.below b (omega arith)
    ];
    above = λ b l. h.above b (omega arith);
    long = λ l. long;
  }

  pub filled_more : (xs : List (Option A)) (n a : ℕ) (v : B) (m new : BTreeMap ℕ B) → IsFilled f xs n m → length xs ≡ ADDRESSES → a ≡ n → f (get_or xs a None) ≡ Some v → Updates nat_cmp m new a (Some v) → IsFilled f xs (n + 1) new
  filled_more xs n a v m new h long same some put = record {
    below = λ b l. elim (cases_eq b n) [
      | inl e ↦ ap (get nat_cmp new) (e ∙ sym same) ∙ (put.1 ∙ sym (ap (λ k. f (get_or xs k None)) (e ∙ sym same) ∙ some))
      | inr ne ↦ put.2 b (apart a b (λ e. ne (sym e ∙ same))) ∙ h.below b (omega arith)
    ];
    above = λ b l. put.2 b (apart a b (λ e. let past : n + 1 ≤ b = l in absurd (omega (arith, e, same, past)))) ∙ h.above b (omega arith);
    long = λ l. long;
  }

  filled_keys : (xs : List (Option A)) (n : ℕ) (m : BTreeMap ℕ B) → n ≤ 128 → IsFilled f xs n m → IsKeyedBelow ADDRESSES m
  filled_keys xs n m most h k some = elim (cases_lt k n) [ inl l ↦ omega arith | inr l ↦ absurd (false≢true (subst IsSome (h.above k l) some)) ]

-- the targets of all places
pub targets_all : (lvrs : List (Option Lvr)) (n : ℕ) (m : BTreeMap ℕ LegacyTarget) → 128 ≤ n → n ≤ 128 → IsFilled (option_map legacy_target_of) lvrs n m → AreTargets lvrs m
targets_all lvrs n m past most h = (
  filled_keys (option_map legacy_target_of) lvrs n m most h,
  places_are ADDRESSES m (legacy_targets_of lvrs) (length-map lvrs (option_map legacy_target_of) ∙ h.long (omega arith)) (λ k l. get_or-map (option_map legacy_target_of) lvrs k None ∙ sym (h.below k (omega arith))),
)

abbrev pub same_place : Option Identity → Option Identity
same_place place = place

pub identities_all : (declared : List (Option Identity)) (n : ℕ) (m : BTreeMap ℕ Identity) → 128 ≤ n → n ≤ 128 → IsFilled same_place declared n m → AreIdentities declared m
identities_all declared n m past most h = (filled_keys same_place declared n m most h, places_are ADDRESSES m declared (h.long (omega arith)) (λ k l. sym (h.below k (omega arith))))
