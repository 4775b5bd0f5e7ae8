-- What a reset and a handover leave.
use Rattle.std.proofs.Common.{◌≡◌, ℕ, suc, ◌<◌, Bool, true, false, not, ◌==◌, List, [], ◌∷◌, map, get_or, Option, Some, None, option_map, option_and_then, if◌then◌else◌, IsSome, ◌+◌, length, set, inl, inr, sym, refl, ap, ◌∙◌, subst, arith}
use Rattle.std.specs.List.{filter}
use Rattle.std.proofs.lemmas.Bool.{cases_eq}
use Rattle.std.proofs.lemmas.List.{get_or-set_other, get_or-set_same, length-set}
use Rattle.std.specs.Ordering.{nat_cmp}
use Rattle.std.specs.BTreeMap.{BTreeMap, WritesThrough, get}
use Rattle.i3c_base.specs.declared.identity.Identity.{Identity}
use Rattle.i3c_base.specs.declared.range.TheConstants.{ADDRESSES, SLOTS}
use Rattle.i3c_base.specs.Frames.{active_has, handed, reset, unaddressed_device}
use Rattle.i3c_base.specs.Places.{changed, changed_from}
use Rattle.i3c_base.specs.Serve.{without_role}
use Rattle.i3c_base.specs.State.{Device, Entry, State, device_at, entry_at, has_address, in_slot, is_the, kept_again, taken_over, unkept}
use Rattle.i3c_base.proofs.Lookups.{changed_same}
use Rattle.i3c_model.specs.declared.plain.Plain.TheInside.{Inside}
use Rattle.i3c_model.specs.Meaning.{forgotten}
use Rattle.i3c_model.specs.Views.{IsWithinPlaces, state_of}
use Rattle.i3c_model.proofs.PlaceLaws.{places_changed, places_left}
use Rattle.i3c_model.proofs.States.{changed_there, each_there, entry_there}

-- places that are changed, and changed again
changed_twice : {A : Type 0} (n : ℕ) (f g : ℕ → A → A) (xs : List A) → changed_from n f (changed_from n g xs) ≡ changed_from n (λ k x. f k (g k x)) xs
changed_twice n f g [] = refl
changed_twice n f g (x ∷ xs) = ap (λ rest. f n (g n x) ∷ rest) (changed_twice (suc n) f g xs)

not_not : (b : Bool) → not (not b) ≡ b
not_not true = refl
not_not false = refl

-- the places below n are those that f says
pub record AreKept (f : ℕ → Option Identity) (n : ℕ) (kept : List (Option Identity)) : Type 0 where
  pub long : length kept ≡ ADDRESSES
  pub below : (a : ℕ) → a < n → get_or kept a None ≡ f a

pub kept_more : (f : ℕ → Option Identity) (n : ℕ) (kept new : List (Option Identity)) (o : Option Identity) → AreKept f n kept → n < ADDRESSES → o ≡ f n → new ≡ set kept n o → AreKept f (n + 1) new
kept_more f n kept new o h low is e = record {
  long = ap length e ∙ (length-set kept n o ∙ h.long);
  below = λ a l. ap (λ xs. get_or xs a None) e ∙ elim (cases_eq a n) [
    | inl same ↦ ap (λ k. get_or (set kept n o) k None) same ∙ (get_or-set_same kept n o None (rw h.long low) ∙ (is ∙ ap f (sym same)))
    | inr other ↦ get_or-set_other kept n a o None other ∙ h.below a (omega (arith, other))
  ];
}

-- the table of a new controller
abbrev pub taking_over : ℕ → State → State
taking_over own st = record st { given = taken_over st.declared own st.given }

-- what a reset makes of a device
abbrev pub clearing : ℕ → ℕ → Device → Device
clearing active s d = if s == active then without_role d else unaddressed_device d

one_stays : (own : Bool) (place : Option Entry) → option_map unkept (if not own then None else place) ≡ (if own then option_map unkept place else None)
one_stays true place = refl
one_stays false place = refl

own_address : (a : ℕ) (o : Option Device) → is_the a (option_and_then (λ (d : Device). d.address) o) ≡ in_slot (has_address a) o
own_address a None = refl
own_address a (Some d) = refl

-- p is a machine's inside, which is seen as the abstract bus st
module _ (p : Inside) (st : State) (seen : state_of p ≡ st) (within : IsWithinPlaces p) where
  -- each entry is kept for nobody
  pub forgotten_there : (new : BTreeMap ℕ Entry) → new.entries ≡ map (λ e. (e.0, unkept e.1)) p.given.entries → state_of (record p { given = new }) ≡ forgotten st
  forgotten_there new e =
      let places = places_changed ADDRESSES (λ k. unkept) (λ k. unkept) p.given new (λ k x h. refl) e ∙ ap (λ (x : State). changed (λ a place. option_map unkept place) x.given) seen in
      λ t. record (seen t) { given = places t }

  -- one entry is left, and kept for nobody
  pub cleared_there : (devices : BTreeMap ℕ Device) (given : BTreeMap ℕ Entry) (own : Option ℕ) → own ≡ option_and_then (λ (d : Device). d.address) (device_at st p.active)
      → devices.entries ≡ map (λ e. (e.0, clearing p.active e.0 e.1)) p.devices.entries → given.entries ≡ filter (λ e. is_the e.0 own) p.given.entries
      → forgotten (state_of (record p { devices = devices; given = given; listed = false })) ≡ reset st
  cleared_there devices given own is changed_all left =
      let active_is : p.active ≡ st.active = ap (λ (x : State). x.active) seen in
      let devices_are = each_there p st seen within devices (clearing p.active) (clearing st.active) (λ s d at. ap (λ k. clearing k s d) active_is) changed_all in
      let stays : (a : ℕ) → is_the a own ≡ active_has st a = λ a. ap (is_the a) is ∙ (own_address a (device_at st p.active) ∙ ap (λ k. in_slot (has_address a) (device_at st k)) active_is) in
      let places = places_left ADDRESSES (λ k. not (is_the k own)) p.given given (left ∙ (λ i. filter (λ e. sym (not_not (is_the e.0 own)) i) p.given.entries)) ∙ ap (λ (x : State). changed (λ k place. if not (is_the k own) then None else place) x.given) seen in
      let given_are = ap (changed (λ a place. option_map unkept place)) places
      ∙ (changed_twice 0 (λ a place. option_map unkept place) (λ k place. if not (is_the k own) then None else place) st.given
      ∙ changed_same (λ k place. option_map unkept (if not (is_the k own) then None else place)) (λ a place. if active_has st a then option_map unkept place else None) None st.given
      (λ k. one_stays (is_the k own) (get_or st.given k None) ∙ ap (λ b. if b then option_map unkept (get_or st.given k None) else None) (stays k))) in
      λ t. record (seen t) { devices = devices_are t; given = given_are t; listed = false }

  -- the slot's device is the active controller
  pub handed_there : (devices : BTreeMap ℕ Device) (s : ℕ) (d w : Device) → s < SLOTS → WritesThrough nat_cmp (nat_cmp s) p.devices w devices → Some d ≡ get nat_cmp p.devices s → w ≡ without_role d
      → (own : ℕ) → taking_over own (state_of (record p { devices = devices; active = s; listed = false })) ≡ handed s own st
  handed_there devices s d w l written at e own = ap (taking_over own) (λ t. record (changed_there p st seen within devices s d w without_role l written at e t) { active = s; listed = false })

  -- each entry is kept for the identity declared at the static address of its device
  pub taken_over_there : (new : BTreeMap ℕ Entry) (own : ℕ) (kept : List (Option Identity)) → ((a : ℕ) → a < ADDRESSES → get_or kept a None ≡ option_and_then (kept_again st.declared st.given own a) (entry_at st a))
      → new.entries ≡ map (λ e. (e.0, record e.1 { kept = get_or kept e.0 None })) p.given.entries → state_of (record p { given = new }) ≡ taking_over own st
  taken_over_there new own kept is e =
      let places = places_changed ADDRESSES (λ k x. record x { kept = get_or kept k None }) (λ k x. record x { kept = kept_again st.declared st.given own k x }) p.given new
      (λ k x h. ap (λ o. record x { kept = o }) (is k (within.addresses k (subst IsSome (sym h) refl)) ∙ ap (option_and_then (kept_again st.declared st.given own k)) (entry_there p st seen within k ∙ h))) e
      ∙ ap (λ (x : State). changed (λ k place. option_map (λ (y : Entry). record y { kept = kept_again st.declared st.given own k y }) place) x.given) seen in
      λ t. record (seen t) { given = places t }
