-- Keys of requests, and what they say of a device.
use Rattle.std.proofs.Common.{◌≡◌, ℕ, ◌+◌, ◌*◌, ◌/◌, ◌%◌, ◌≤◌, Bool, true, false, not, ◌&&◌, ◌||◌, ◌==◌, ◌⊎◌, if◌then◌else◌, List, get_or, Option, Some, None, is_none, is_some, inl, inr, refl, sym, ap, subst, ◌∙◌, arith}
use Rattle.std.proofs.lemmas.Bool.{and_parts, both_ways, cases_eq, cond-true, cond-false, eq-eqb, eqb-true, ne_eqb}
use Rattle.i3c_base.specs.declared.requests.Request.{Request}
use Rattle.i3c_base.specs.declared.requests.Request.TheVariants.{Interrupt, Join, Role}
use Rattle.i3c_base.specs.Serve.{asks, is_empty, drives_in}
use Rattle.i3c_base.specs.State.{Device, in_slot, is_the, with_active}
use Rattle.i3c_header.specs.Keys.{IsLawful}
use Rattle.i3c_device.specs.declared.enabled.Enabled.{Enabled}
use Rattle.i3c_device.specs.Addressing.{IsDynamic, IsDynamicIn}
use Rattle.i3c_device.specs.Enabling.{kinds_in, seen, seen_in, under}
use Rattle.i3c_device.specs.SlotIndex.{key_in}
use Rattle.i3c_device.specs.Wishing.{asks_some, key_of, request_of}
use Rattle.i3c_header.proofs.KeyLaws.{key_of as key_of_request}
use Rattle.i3c_device.proofs.SeenWalks.{and_join, now_at}

-- a join's key, or one of an address from 08 on
abbrev pub IsLawfulKey : ℕ → Type 0
IsLawfulKey key = (key ≡ 4) ⊎ (16 ≤ key)

-- the request with an even key, and that with an odd one
role_request : (a : ℕ) → 8 ≤ a → request_of (2 * a) ≡ Role a
role_request a l =
    let other : 2 * a ≡ 4 → ⊥ = (λ e. omega (arith, e, l)) in
    let even : 2 * a % 2 ≡ 0 = omega arith in
    let half : 2 * a / 2 ≡ a = omega arith in
    cond-false (2 * a == 4) Join (if 2 * a % 2 == 0 then Role (2 * a / 2) else Interrupt (2 * a / 2)) (ne_eqb (2 * a) 4 other)
    ∙ (cond-true (2 * a % 2 == 0) (Role (2 * a / 2)) (Interrupt (2 * a / 2)) (eq-eqb (2 * a % 2) 0 even) ∙ ap Role half)

interrupt_request : (a : ℕ) → 8 ≤ a → request_of (2 * a + 1) ≡ Interrupt a
interrupt_request a l =
    let other : 2 * a + 1 ≡ 4 → ⊥ = (λ e. omega (arith, e, l)) in
    let odd : (2 * a + 1) % 2 ≡ 0 → ⊥ = (λ e. omega (arith, e)) in
    let half : (2 * a + 1) / 2 ≡ a = omega arith in
    cond-false (2 * a + 1 == 4) Join (if (2 * a + 1) % 2 == 0 then Role ((2 * a + 1) / 2) else Interrupt ((2 * a + 1) / 2)) (ne_eqb (2 * a + 1) 4 other)
    ∙ (cond-false ((2 * a + 1) % 2 == 0) (Role ((2 * a + 1) / 2)) (Interrupt ((2 * a + 1) / 2)) (ne_eqb ((2 * a + 1) % 2) 0 odd) ∙ ap Interrupt half)

-- it drives its own key
pub key_requested : (k : ℕ) → IsLawfulKey k → key_of_request (request_of k) ≡ k
key_requested k (inl e) = ap (λ n. key_of_request (request_of n)) e ∙ sym e
key_requested k (inr l) = elim (cases_eq (k % 2) 0) [
  | inl e ↦
      let twice : k ≡ 2 * (k / 2) = omega (arith, e) in
      let same : 2 * (k / 2) + 0 ≡ k = omega (arith, e) in
      ap (λ n. key_of_request (request_of n)) twice ∙ (ap key_of_request (role_request (k / 2) (omega (arith, l))) ∙ same)
  | inr ne ↦
      let twice : k ≡ 2 * (k / 2) + 1 = omega (arith, ne) in
      ap (λ n. key_of_request (request_of n)) twice ∙ (ap key_of_request (interrupt_request (k / 2) (omega (arith, l))) ∙ sym twice)
]

-- what a key says: the device that asks drives its request and no other
abbrev pub asks_by : Option ℕ → Bool → Bool → Bool → Bool → Bool → Bool → Request → Bool
asks_by address role join waits kj kr ki Join = is_none address && (join && kj)
asks_by address role join waits kj kr ki (Role a) = is_the a address && (role && kr)
asks_by address role join waits kj kr ki (Interrupt a) = is_the a address && (not role && (waits && ki))

abbrev pub asks_some_by : Option ℕ → Bool → Bool → Bool → Bool → Bool → Bool → Bool
asks_some_by address role join waits kj kr ki = ((is_none address && join) && kj) || (((is_some address && role) && kr) || ((is_some address && (not role && waits)) && ki))

pub record IsAsked (asked : Request → Bool) (key : ℕ) : Type 0 where
  pub asks_it : asked (request_of key) ≡ true
  pub alone : (q : Request) → asked q ≡ true → q ≡ request_of key
  pub lawful : IsLawful (request_of key)
  pub lawful_key : IsLawfulKey key

key_asked_by : (address : Option ℕ) (role join waits kj kr ki : Bool) → IsDynamic address → asks_some_by address role join waits kj kr ki ≡ true
    → IsAsked (asks_by address role join waits kj kr ki) (key_of address role)
key_asked_by None role join waits kj kr ki low h = record {
  asks_it = joins join kj h;
  alone = one;
  lawful = tt;
  lawful_key = inl refl;
}
  where
    one : (q : Request) → asks_by None role join waits kj kr ki q ≡ true → q ≡ Join
    one Join e = refl
    one (Role a) e = absurd (both_ways _ refl e)
    one (Interrupt a) e = absurd (both_ways _ refl e)

    joins : (j k : Bool) → ((j && k) || false) ≡ true → (j && k) ≡ true
    joins true true e = refl
    joins true false e = e
    joins false k e = e
key_asked_by (Some a) true join waits kj kr ki low h = record {
  asks_it = ap (asks_by (Some a) true join waits kj kr ki) (role_request a low) ∙ and_join (a == a) (true && kr) (eq-eqb a a refl) (roles kr h);
  alone = one;
  lawful = subst IsLawful (sym (role_request a low)) low;
  lawful_key = inr (omega (arith, low));
}
  where
    one : (q : Request) → asks_by (Some a) true join waits kj kr ki q ≡ true → q ≡ request_of (2 * a)
    one Join e = absurd (both_ways _ refl e)
    one (Role b) e = ap Role (sym (eqb-true a b (and_parts (a == b) (true && kr) e).0)) ∙ sym (role_request a low)
    one (Interrupt b) e = absurd (both_ways _ refl (and_parts (a == b) false e).1)

    roles : (k : Bool) → (k || false) ≡ true → k ≡ true
    roles true e = refl
    roles false e = e
key_asked_by (Some a) false join waits kj kr ki low h = record {
  asks_it = ap (asks_by (Some a) false join waits kj kr ki) (interrupt_request a low) ∙ and_join (a == a) (waits && ki) (eq-eqb a a refl) h;
  alone = one;
  lawful = subst IsLawful (sym (interrupt_request a low)) low;
  lawful_key = inr (omega (arith, low));
}
  where
    one : (q : Request) → asks_by (Some a) false join waits kj kr ki q ≡ true → q ≡ request_of (2 * a + 1)
    one Join e = absurd (both_ways _ refl e)
    one (Role b) e = absurd (both_ways _ refl (and_parts (a == b) false e).1)
    one (Interrupt b) e = ap Interrupt (sym (eqb-true a b (and_parts (a == b) (waits && ki) e).0)) ∙ sym (interrupt_request a low)

key_asked : (d : Device) → IsDynamic d.address → asks_some d ≡ true → IsAsked (asks d) (key_of d.address d.role_wish)
key_asked d low h =
    let by = key_asked_by d.address d.role_wish d.join_wish (not (is_empty d.waiting)) d.kinds.join d.kinds.role d.kinds.interrupt low h in record {
      asks_it = same (request_of (key_of d.address d.role_wish)) ∙ by.asks_it;
      alone = λ q e. by.alone q (sym (same q) ∙ e);
      lawful = by.lawful;
      lawful_key = by.lawful_key;
    }
  where
    same : (q : Request) → asks d q ≡ asks_by d.address d.role_wish d.join_wish (not (is_empty d.waiting)) d.kinds.join d.kinds.role d.kinds.interrupt q
    same Join = refl
    same (Role a) = refl
    same (Interrupt a) = refl

-- what a slot's device asks for, where it isn't the active controller's
abbrev asked_in : Bool → Option Device → Request → Bool
asked_in other place q = other && in_slot (λ d. asks d q) place

-- the request of a slot that asks
pub key_driven : (e : Enabled) (xs now : List (Option Device)) (active i key : ℕ) → seen e xs ≡ now → key ≡ key_in (get_or xs i None) → IsDynamicIn (get_or xs i None) → (not (i == active) && in_slot asks_some (get_or now i None)) ≡ true
    → IsAsked (λ q. drives_in (with_active now active) q i) key
key_driven e xs now active i key is keyed low asks_it =
    let p = and_parts (not (i == active)) (in_slot asks_some (get_or now i None)) asks_it in
    subst (λ k. IsAsked (asked_in (not (i == active)) (get_or now i None)) k) (sym keyed) (subst (λ n. IsAsked (asked_in (not (i == active)) n) (key_in (get_or xs i None))) (sym (now_at e xs now i is)) (go (get_or xs i None) low p.0 (sym (ap (in_slot asks_some) (now_at e xs now i is)) ∙ p.1)))
  where
    go : (o : Option Device) → IsDynamicIn o → not (i == active) ≡ true → in_slot asks_some (seen_in e i o) ≡ true → IsAsked (asked_in (not (i == active)) (seen_in e i o)) (key_in o)
    go None l other h = absurd (both_ways _ refl h)
    go (Some d) l other h =
        let by = key_asked (under (kinds_in e i) d) l h in record {
          asks_it = and_join (not (i == active)) (asks (under (kinds_in e i) d) (request_of (key_of d.address d.role_wish))) other by.asks_it;
          alone = λ q t. by.alone q (and_parts (not (i == active)) (asks (under (kinds_in e i) d) q) t).1;
          lawful = by.lawful;
          lawful_key = by.lawful_key;
        }
