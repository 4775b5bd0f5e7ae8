-- What is in a place after a change.
use Rattle.std.proofs.Common.{◌≡◌, ℕ, zero, suc, ◌+◌, ◌≤◌, ◌<◌, Bool, true, false, List, [], ◌∷◌, length, get_or, set, replicate, Option, Some, None, option_map, ◌==◌, if◌then◌else◌, ◌⊎◌, inl, inr, sym, refl, ap, ◌∙◌, arith, zero-add}
use Rattle.std.proofs.lemmas.Bool.{cases_eq, cases_lt, cond-true, cond-false, eq-eqb, eqb-true, ne_eqb}
use Rattle.std.proofs.lemmas.List.{get_or-set_other, get_or-set_same, get_or_past, set_past}
use Rattle.std.proofs.lemmas.Option.{none-some, same_Some}
use Rattle.i3c_base.specs.declared.range.TheConstants.{ADDRESSES, SLOTS}
use Rattle.i3c_base.specs.declared.device.Setup.{Setup}
use Rattle.i3c_base.specs.declared.identity.Identity.{Identity}
use Rattle.i3c_base.specs.Places.{changed, changed_from}
use Rattle.i3c_base.specs.State.{Device, Entry, HasDevices, State, attached, change, device_at, each, each_in, entry_in, fixed_of, kept_again, kept_of, no_devices, no_entries, no_identities, no_raises, population, taken_over, unkept, with_active}
use Rattle.i3c_base.specs.Local.{attach, drop_off}
use Rattle.i3c_base.specs.Cutting.{Lost}
use Rattle.i3c_base.specs.Serve.{emptied}

-- the population of a bus with these devices
pub population_is : (st : State) (devices : List (Option Device)) (active : ℕ) → HasDevices st devices active → population st ≡ with_active devices active
population_is st devices active has = λ t. with_active (has.0 t) (has.1 t)

-- each device of a bus with these devices, changed
pub each_on : (f : ℕ → ℕ → Device → Device) (st : State) (devices more : List (Option Device)) (active : ℕ) → HasDevices st devices active → more ≡ each_in (f active) devices → record st { devices = more } ≡ each (f st.active) st
each_on f st devices more active has e = λ t. record st { devices = (e ∙ (λ k. each_in (f (sym has.1 k)) (sym has.0 k))) t }

changed_from_at : {A : Type 0} (f : ℕ → A → A) (n : ℕ) (xs : List A) (k : ℕ) (d : A) → f (k + n) d ≡ d → get_or (changed_from n f xs) k d ≡ f (k + n) (get_or xs k d)
changed_from_at f n [] k d e = sym e
changed_from_at f n (x ∷ xs) zero d e = ap (λ k. f k x) (sym (zero-add n))
changed_from_at f n (x ∷ xs) (suc k) d e =
    let same : k + suc n ≡ suc k + n = omega arith in
    changed_from_at f (suc n) xs k d (ap (λ m. f m d) same ∙ e) ∙ ap (λ m. f m (get_or xs k d)) same

-- the places of `changed`, which leaves the default past the end as it is
pub changed_at : {A : Type 0} (f : ℕ → A → A) (xs : List A) (k : ℕ) (d : A) → f k d ≡ d → get_or (changed f xs) k d ≡ f k (get_or xs k d)
changed_at f xs k d e =
    let same : k + 0 ≡ k = omega arith in
    changed_from_at f 0 xs k d (ap (λ m. f m d) same ∙ e) ∙ ap (λ m. f m (get_or xs k d)) same

length-changed_from : {A : Type 0} (f : ℕ → A → A) (n : ℕ) (xs : List A) → length (changed_from n f xs) ≡ length xs
length-changed_from f n [] = refl
length-changed_from f n (x ∷ xs) = ap suc (length-changed_from f (suc n) xs)

pub length-changed : {A : Type 0} (f : ℕ → A → A) (xs : List A) → length (changed f xs) ≡ length xs
length-changed f xs = length-changed_from f 0 xs

-- a place that is set: what was put there, or what was there
pub set_at : {A : Type 0} (xs : List A) (i j : ℕ) (v d : A) → ((j ≡ i) × (get_or (set xs i v) j d ≡ v)) ⊎ (get_or (set xs i v) j d ≡ get_or xs j d)
set_at xs i j v d = elim (cases_eq j i) [
  | inl e ↦ elim (cases_lt i (length xs)) [ inl l ↦ inl (e, rw e (get_or-set_same xs i v d l)) | inr l ↦ inr (ap (λ ys. get_or ys j d) (set_past xs i v l)) ]
  | inr n ↦ inr (get_or-set_other xs i j v d n)
]

-- an element found after a write was written there, or was found before
pub set_from : {A : Type 0} (xs : List (Option A)) (i j : ℕ) (v : Option A) (y : A) → get_or (set xs i v) j None ≡ Some y → ((j ≡ i) × (v ≡ Some y)) ⊎ (get_or xs j None ≡ Some y)
set_from xs i j v y h = elim (set_at xs i j v None) [ inl e ↦ inl (e.0, sym e.1 ∙ h) | inr e ↦ inr (sym e ∙ h) ]

-- the same where it was put in range
pub set_in : {A : Type 0} (xs : List A) (i j : ℕ) (v d : A) → i < length xs → get_or (set xs i v) j d ≡ (if j == i then v else get_or xs j d)
set_in xs i j v d l = elim (cases_eq j i) [
  | inl e ↦ rw e (get_or-set_same xs i v d l) ∙ sym (cond-true (j == i) v (get_or xs j d) (eq-eqb j i e))
  | inr n ↦ get_or-set_other xs i j v d n ∙ sym (cond-false (j == i) v (get_or xs j d) (ne_eqb j i n))
]

-- or its value is the default past the end
pub set_default : {A : Type 0} (xs : List A) (i j : ℕ) (v d : A) → (length xs ≤ i → v ≡ d) → get_or (set xs i v) j d ≡ (if j == i then v else get_or xs j d)
set_default xs i j v d past = elim (cases_lt i (length xs)) [
  | inl l ↦ set_in xs i j v d l
  | inr l ↦ ap (λ ys. get_or ys j d) (set_past xs i v l) ∙ elim (cases_eq j i) [
    | inl e ↦ get_or_past xs j d (rw e l) ∙ (sym (past l) ∙ sym (cond-true (j == i) v (get_or xs j d) (eq-eqb j i e)))
    | inr n ↦ sym (cond-false (j == i) v (get_or xs j d) (ne_eqb j i n))
  ]
]

-- an element of a mapped option is the image of an element of the option
pub option_map_from : {A B : Type 0} (f : A → B) (o : Option A) (y : B) → option_map f o ≡ Some y → (x : A) × (o ≡ Some x) × (f x ≡ y)
option_map_from f None y h = absurd (none-some y h)
option_map_from f (Some x) y h = (x, refl, same_Some (f x) y h)

-- each present device changed
pub each_at : (f : ℕ → Device → Device) (st : State) (s : ℕ) → device_at (each f st) s ≡ option_map (f s) (device_at st s)
each_at f st s = changed_at (λ t place. option_map (f t) place) st.devices s None refl

pub each_from : (f : ℕ → Device → Device) (st : State) (s : ℕ) (d : Device) → device_at (each f st) s ≡ Some d → (x : Device) × (device_at st s ≡ Some x) × (f s x ≡ d)
each_from f st s d h = option_map_from (f s) (device_at st s) d (sym (each_at f st s) ∙ h)

pub change_at : (s : ℕ) (f : Device → Device) (st : State) (t : ℕ) → device_at (change s f st) t ≡ option_map (λ d. if t == s then f d else d) (device_at st t)
change_at s f st t =
    set_default st.devices s t (option_map f (device_at st s)) None (λ l. ap (option_map f) (get_or_past st.devices s None l)) ∙ go (t == s) (λ e. eqb-true t s e) (device_at st t) refl
  where
    go : (b : Bool) → (b ≡ true → t ≡ s) → (o : Option Device) → device_at st t ≡ o
        → (if b then option_map f (device_at st s) else device_at st t) ≡ option_map (λ d. if b then f d else d) o
    go true e None p = ap (λ k. option_map f (device_at st k)) (sym (e refl)) ∙ ap (option_map f) p
    go true e (Some x) p = ap (λ k. option_map f (device_at st k)) (sym (e refl)) ∙ ap (option_map f) p
    go false e None p = p
    go false e (Some x) p = p

pub change_from : (s : ℕ) (f : Device → Device) (st : State) (t : ℕ) (d : Device) → device_at (change s f st) t ≡ Some d
    → (x : Device) × (device_at st t ≡ Some x) × ((if t == s then f x else x) ≡ d)
change_from s f st t d h = option_map_from (λ x. if t == s then f x else x) (device_at st t) d (sym (change_at s f st t) ∙ h)

-- lost devices gone
pub emptied_at : (lost : Lost) (st : State) (s : ℕ) → device_at (emptied lost st) s ≡ (if lost s then None else device_at st s)
emptied_at lost st s = changed_at (λ t place. if lost t then None else place) st.devices s None
    (elim (lost s) as (λ b. ◌≡◌ {A = Option Device} (if b then None else None) None) [ true ↦ refl | false ↦ refl ])

cond_none_from : {A : Type 0} (b : Bool) (o : Option A) (y : A) → (if b then None else o) ≡ Some y → (b ≡ false) × (o ≡ Some y)
cond_none_from true o y h = absurd (none-some y h)
cond_none_from false o y h = (refl, h)

pub emptied_from : (lost : Lost) (st : State) (s : ℕ) (d : Device) → device_at (emptied lost st) s ≡ Some d → (lost s ≡ false) × (device_at st s ≡ Some d)
emptied_from lost st s d h = cond_none_from (lost s) (device_at st s) d (sym (emptied_at lost st s) ∙ h)

-- one device gone, and one there
pub drop_off_at : (s : ℕ) (st : State) (t : ℕ) → device_at (drop_off s st) t ≡ (if t == s then None else device_at st t)
drop_off_at s st t = set_default st.devices s t None None (λ l. refl)

pub drop_off_from : (s : ℕ) (st : State) (t : ℕ) (d : Device) → device_at (drop_off s st) t ≡ Some d → ((t == s) ≡ false) × (device_at st t ≡ Some d)
drop_off_from s st t d h = cond_none_from (t == s) (device_at st t) d (sym (drop_off_at s st t) ∙ h)

pub attach_from : (s : ℕ) (setup : Setup) (st : State) (t : ℕ) (d : Device) → device_at (attach s setup st) t ≡ Some d
    → ((t ≡ s) × (attached (fixed_of st.declared setup.identity) setup ≡ d)) ⊎ (device_at st t ≡ Some d)
attach_from s setup st t d h = elim (set_from st.devices s t (Some (attached (fixed_of st.declared setup.identity) setup)) d h) [
  | inl e ↦ inl (e.0, same_Some (attached (fixed_of st.declared setup.identity) setup) d e.1)
  | inr e ↦ inr e
]

-- entries of a table that was taken over
pub taken_over_at : (declared : List (Option Identity)) (own : ℕ) (given : List (Option Entry)) (a : ℕ)
    → entry_in (taken_over declared own given) a ≡ option_map (λ (e : Entry). record e { kept = kept_again declared given own a e }) (entry_in given a)
taken_over_at declared own given a = changed_at (λ b place. option_map (λ (e : Entry). record e { kept = kept_again declared given own b e }) place) given a None refl

pub length-taken_over : (declared : List (Option Identity)) (own : ℕ) (given : List (Option Entry)) → length (taken_over declared own given) ≡ length given
length-taken_over declared own given = length-changed (λ b place. option_map (λ (e : Entry). record e { kept = kept_again declared given own b e }) place) given

pub kept_of-unkept : (o : Option Entry) → kept_of (option_map unkept o) ≡ None
kept_of-unkept None = refl
kept_of-unkept (Some e) = refl

-- the places at the start are empty
pub replicate_at : {A : Type 0} (n k : ℕ) (v d : A) → (get_or (replicate n v) k d ≡ v) ⊎ (get_or (replicate n v) k d ≡ d)
replicate_at zero k v d = inr refl
replicate_at (suc n) zero v d = inl refl
replicate_at (suc n) (suc k) v d = replicate_at n k v d

replicate_same : {A : Type 0} (n k : ℕ) (d : A) → get_or (replicate n d) k d ≡ d
replicate_same n k d = elim (replicate_at n k d d) [ inl e ↦ e | inr e ↦ e ]

pub no_devices_at : (s : ℕ) → get_or no_devices s None ≡ None
unfolding no_devices
no_devices_at s = replicate_same SLOTS s None

pub no_entries_at : (a : ℕ) → get_or no_entries a None ≡ None
unfolding no_entries
no_entries_at a = replicate_same ADDRESSES a None

pub no_identities_at : (a : ℕ) → get_or no_identities a None ≡ None
unfolding no_identities
no_identities_at a = replicate_same ADDRESSES a None

pub no_raises_at : (s : ℕ) → get_or no_raises s 0 ≡ 0
unfolding no_raises
no_raises_at s = replicate_same SLOTS s 0

length-replicate_of : {A : Type 0} (n : ℕ) (v : A) → length (replicate n v) ≡ n
length-replicate_of zero v = refl
length-replicate_of (suc n) v = ap suc (length-replicate_of n v)

pub length-no_devices : length no_devices ≡ SLOTS
unfolding no_devices
length-no_devices = length-replicate_of {A = Option Device} SLOTS None

pub length-no_raises : length no_raises ≡ SLOTS
unfolding no_raises
length-no_raises = length-replicate_of {A = ℕ} SLOTS 0

pub length-no_entries : length no_entries ≡ ADDRESSES
unfolding no_entries
length-no_entries = length-replicate_of {A = Option Entry} ADDRESSES None

-- two functions that agree on the places
changed_from_same : {A : Type 0} (f g : ℕ → A → A) (d : A) (n : ℕ) (xs : List A) → ((k : ℕ) → k < length xs → f (k + n) (get_or xs k d) ≡ g (k + n) (get_or xs k d)) → changed_from n f xs ≡ changed_from n g xs
changed_from_same f g d n [] h = refl
changed_from_same f g d n (x ∷ xs) h =
    let first : f n x ≡ g n x = ap (λ k. f k x) (sym (zero-add n)) ∙ (h 0 (omega arith) ∙ ap (λ k. g k x) (zero-add n)) in
    ap (λ y. y ∷ changed_from (suc n) f xs) first ∙ ap (λ ys. g n x ∷ ys) (changed_from_same f g d (suc n) xs (λ k l.
    let same : suc k + n ≡ k + suc n = omega arith in
    ap (λ m. f m (get_or xs k d)) (sym same) ∙ (h (suc k) (omega arith) ∙ ap (λ m. g m (get_or xs k d)) same)))

pub changed_same : {A : Type 0} (f g : ℕ → A → A) (d : A) (xs : List A) → ((k : ℕ) → f k (get_or xs k d) ≡ g k (get_or xs k d)) → changed f xs ≡ changed g xs
changed_same f g d xs h = changed_from_same f g d 0 xs (λ k l.
    let same : k + 0 ≡ k = omega arith in
    ap (λ m. f m (get_or xs k d)) same ∙ (h k ∙ ap (λ m. g m (get_or xs k d)) (sym same)))
