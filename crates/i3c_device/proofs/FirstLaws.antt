-- The request that wins a header: what some slots drive into it, by their keys, and which of them drive the winner's.
use Rattle.std.proofs.Common.{◌≡◌, ℕ, ◌+◌, ◌<◌, ◌≤◌, true, false, not, ◌&&◌, ◌==◌, ◌⊎◌, List, [], ◌∷◌, ◌++◌, length, length-append, get_or, slice_index, Option, None, Some, inl, inr, sym, ap, subst, ◌∙◌, arith}
use Rattle.std.specs.List.{All, Contains}
use Rattle.std.proofs.lemmas.Bool.{and_left, and_parts, both_ways, cases_Bool, cases_eq, cases_lt, eq-eqb, false_from_ne_true, ne_eqb}
use Rattle.std.proofs.lemmas.List.{get_or_past}
use Rattle.std.proofs.lemmas.List.Elements.{All-append, All-cons, All-contains, All-nil, All-weaker, Contains-append_left, Contains-push}
use Rattle.i3c_base.specs.declared.range.TheConstants.{SLOTS}
use Rattle.i3c_base.specs.declared.requests.Request.{Request}
use Rattle.i3c_base.specs.Serve.{NobodyDrives, asks, drives_in, rank}
use Rattle.i3c_base.specs.State.{Device, Population, in_slot, with_active}
use Rattle.i3c_header.specs.Keys.{IsFirstOf, IsLawful}
use Rattle.i3c_header.proofs.KeyLaws.{key_of as key_of_request}
use Rattle.i3c_device.specs.declared.enabled.Enabled.{Enabled}
use Rattle.i3c_device.specs.declared.slot_set.SlotSet.{SlotSet}
use Rattle.i3c_device.specs.Driven.{IsDrivenIn}
use Rattle.i3c_device.specs.Enabling.{seen}
use Rattle.i3c_device.specs.SlotIndex.{AreKeys}
use Rattle.i3c_device.specs.Sets.{has}
use Rattle.i3c_device.specs.Walks.{IsFirstDriven}
use Rattle.i3c_device.specs.Wishing.{asks_some, request_of}
use Rattle.i3c_device.proofs.FindLaws.{TakesOut, not_taken, still_in}
use Rattle.i3c_device.proofs.KeyLaws.{IsAsked, key_driven, key_requested}
use Rattle.i3c_device.proofs.MarkLaws.{undriven_past}
use Rattle.i3c_device.proofs.SeenWalks.{and_join, asked_of}

-- past the last slot nobody drives
pub driven_below : (all : Population) (s : ℕ) (q : Request) → length all.devices ≡ SLOTS → drives_in all q s ≡ true → s < SLOTS
driven_below all s q long d = elim (cases_lt s SLOTS) [
  | inl l ↦ l
  | inr past ↦ absurd (undriven_past all s q (get_or_past all.devices s None (omega (arith, long, past))) d)
]

-- ---- the requests of some slots, one slot after another

-- these are the requests of the slots that aren't left, and those that are come after them
pub record RequestsSoFar (among left : SlotSet) (keys : List ℕ) (first : ℕ) (requests : List Request) : Type 0 where
  pub within : (s : ℕ) → s < SLOTS → has left s ≡ true → has among s ≡ true
  pub after : (s : ℕ) → s < SLOTS → has left s ≡ true → first ≤ s
  pub low : first ≤ SLOTS
  pub short : length requests ≤ first
  pub sound : All (IsDrivenIn among keys) requests
  pub complete : (s : ℕ) → s < SLOTS → has among s ≡ true → (has left s ≡ true) ⊎ Contains requests (request_of (slice_index keys s))

pub requests_none : (among : SlotSet) (keys : List ℕ) (requests : List Request) → requests ≡ [] → RequestsSoFar among among keys 0 requests
requests_none among keys requests e = record {
  within = λ s l t. t;
  after = λ s l t. omega arith;
  low = omega arith;
  short = let none = ap length e in omega (arith, none);
  sound = subst (All (IsDrivenIn among keys)) (sym e) (All-nil (IsDrivenIn among keys));
  complete = λ s l t. inl t;
}

pub requests_more : (among left next : SlotSet) (keys : List ℕ) (first i : ℕ) (requests more : List Request) (r : Request) → RequestsSoFar among left keys first requests → i < SLOTS → has left i ≡ true
    → ((s : ℕ) → s < i → has left s ≡ false) → TakesOut i left next → r ≡ request_of (slice_index keys i) → more ≡ requests ++ r ∷ [] → RequestsSoFar among next keys (i + 1) more
requests_more among left next keys first i requests more r h low there below out is e = record {
  within = λ s l t. h.within s l (was s l t);
  after = λ s l t. elim (cases_lt s i) [
    | inl before ↦ absurd (both_ways _ (below s before) (was s l t))
    | inr later ↦ let other = not_taken i left next out s l t in elim (cases_eq s i) [ inl same ↦ absurd (other same) | inr ne ↦ omega (arith, later, ne) ]
  ];
  low = omega (arith, low);
  short = let long = ap length e ∙ length-append requests (r ∷ []) in let start = h.after i low there in omega (arith, long, h.short, start);
  sound = subst (All (IsDrivenIn among keys)) (sym e)
      (All-append (IsDrivenIn among keys) requests (r ∷ []) h.sound (All-cons (IsDrivenIn among keys) r [] (i, low, h.within i low there, is) (All-nil (IsDrivenIn among keys))));
  complete = λ s l t. elim (cases_eq s i) [
    | inl same ↦ inr (subst (λ ks. Contains ks (request_of (slice_index keys s))) (sym e) (subst (Contains (requests ++ r ∷ [])) (is ∙ ap (λ k. request_of (slice_index keys k)) (sym same)) (Contains-push requests r)))
    | inr ne ↦ elim (h.complete s l t) [
      | inl later ↦ inl (still_in i left next out s l ne ∙ later)
      | inr held ↦ inr (subst (λ ks. Contains ks (request_of (slice_index keys s))) (sym e) (Contains-append_left requests (r ∷ []) (request_of (slice_index keys s)) held))
    ]
  ];
}
  where
    was : (s : ℕ) → s < SLOTS → has next s ≡ true → has left s ≡ true
    was s l t = sym (still_in i left next out s l (not_taken i left next out s l t)) ∙ t

pub requests_all : (among left : SlotSet) (keys : List ℕ) (first : ℕ) (requests : List Request) → RequestsSoFar among left keys first requests → ((s : ℕ) → s < SLOTS → has left s ≡ false)
    → (s : ℕ) → s < SLOTS → has among s ≡ true → Contains requests (request_of (slice_index keys s))
requests_all among left keys first requests h none s l t = elim (h.complete s l t) [ inl later ↦ absurd (both_ways _ (none s l) later) | inr held ↦ held ]

-- ---- the winner

-- a slot of these drives the request of its key and no other, and the other slots drive none
pub record AreDriving (all : Population) (driving : SlotSet) (keys : List ℕ) : Type 0 where
  pub asked : (s : ℕ) → s < SLOTS → has driving s ≡ true → IsAsked (λ q. drives_in all q s) (slice_index keys s)
  pub every : (s : ℕ) (q : Request) → drives_in all q s ≡ true → (s < SLOTS) × (has driving s ≡ true)

pub are_driving : (e : Enabled) (xs now : List (Option Device)) (active : ℕ) (keys : List ℕ) (driving : SlotSet) → seen e xs ≡ now → AreKeys keys xs → length now ≡ SLOTS
    → ((s : ℕ) → s < SLOTS → has driving s ≡ (not (s == active) && in_slot asks_some (get_or now s None))) → AreDriving (with_active now active) driving keys
are_driving e xs now active keys driving is are long asking = record {
  asked = λ s l t. key_driven e xs now active s (slice_index keys s) is (are.1 s l).0 (are.1 s l).1 (sym (asking s l) ∙ t);
  every = λ s q d. let l = driven_below (with_active now active) s q long d in (l, asking s l ∙ asks_one s q (get_or now s None) d);
}
  where
    asks_one : (s : ℕ) (q : Request) (o : Option Device) → (not (s == active) && in_slot (λ d. asks d q) o) ≡ true → (not (s == active) && in_slot asks_some o) ≡ true
    asks_one s q None d = d
    asks_one s q (Some x) d = let p = and_parts (not (s == active)) _ d in and_join (not (s == active)) (asks_some x) p.0 (asked_of x q p.1)

module _ (all : Population) (driving : SlotSet) (keys : List ℕ) (requests : List Request) (h : AreDriving all driving keys)
    (complete : (s : ℕ) → s < SLOTS → has driving s ≡ true → Contains requests (request_of (slice_index keys s))) where
  pub nobody_drives : requests ≡ [] → NobodyDrives all
  nobody_drives none s q =
      false_from_ne_true (drives_in all q s) (λ d.
      let at = h.every s q d in
      let held = complete s at.0 at.1 in
      let past = held.1 in
      let empty = ap length none in
      omega (arith, past, empty))

  pub all_lawful : All (IsDrivenIn driving keys) requests → All IsLawful requests
  all_lawful sound = All-weaker (IsDrivenIn driving keys) IsLawful (λ r t. subst IsLawful (sym t.3) (h.asked t.0 t.1 t.2).lawful) requests sound

  pub first_driven : All (IsDrivenIn driving keys) requests → (r : Request) (key : ℕ) (slots : SlotSet) → IsFirstOf requests r → key ≡ key_of_request r
      → ((s : ℕ) → s < SLOTS → has slots s ≡ (has driving s && slice_index keys s == key)) → IsFirstDriven all (r, slots)
  first_driven sound r key slots first is have = record {
    drivers = λ s l. have s l ∙ elim (cases_Bool (has driving s)) [
      | inl drives ↦
          ap (λ b. b && slice_index keys s == key) drives
          ∙ elim (cases_eq (slice_index keys s) key) [
            | inl same ↦ eq-eqb (slice_index keys s) key same ∙ sym (subst (λ q. drives_in all q s ≡ true) (ap request_of (same ∙ own) ∙ sym t.3) (h.asked s l drives).asks_it)
            | inr ne ↦ ne_eqb (slice_index keys s) key ne ∙ sym (false_from_ne_true (drives_in all r s) (λ d. ne (sym (key_requested (slice_index keys s) (h.asked s l drives).lawful_key) ∙ (ap key_of_request (sym ((h.asked s l drives).alone r d)) ∙ sym is))))
          ]
      | inr out ↦ and_left (has driving s) (slice_index keys s == key) out ∙ sym (false_from_ne_true (drives_in all r s) (λ d. both_ways _ out (h.every s r d).1))
    ];
    comes_first = record {
      driven = (t.0, subst (λ q. drives_in all q t.0 ≡ true) (sym t.3) (h.asked t.0 t.1 t.2).asks_it);
      first = λ s q d.
          let at = h.every s q d in
          All-contains (λ q. rank r ≤ rank q) requests q first.1 (subst (Contains requests) (sym ((h.asked s at.0 at.1).alone q d)) (complete s at.0 at.1));
    };
  }
    where
      t : IsDrivenIn driving keys r
      t = All-contains (IsDrivenIn driving keys) requests r sound first.0

      own : key ≡ slice_index keys t.0
      own = is ∙ (ap key_of_request t.3 ∙ key_requested (slice_index keys t.0) (h.asked t.0 t.1 t.2).lawful_key)
