-- The entries of a table's list, as they are found in it.
use Rattle.std.proofs.Common.{◌≡◌, ◌≢◌, ◌↔◌, ℕ, zero, suc, ◌+◌, ◌≤◌, ◌<◌, cond, if◌then◌else◌, Bool, true, false, List, [], ◌∷◌, ◌++◌, length, get_or, set, Option, Some, None, IsSome, option_map, is_some, count_by, inl, inr, sym, refl, ap, ◌∙◌, arith, length-append, zero-add, append_assoc}
use Rattle.std.specs.Option.{option_to_list}
use Rattle.std.proofs.lemmas.Bool.{both_ways, cases_eq, cases_lt, cond-true, cond-false}
use Rattle.std.proofs.lemmas.List.{ext_get_or, get_or-set_other, get_or-set_same, get_or_past, length-set, set_past}
use Rattle.std.proofs.lemmas.List.Sums.{sum_by-set}
use Rattle.i3c_base.specs.Covered.{Table}
use Rattle.i3c_base.specs.Places.{changed_from}
use Rattle.i3c_base.specs.State.{Entry as Given, entry_in}
use Rattle.i3c_base.proofs.Lookups.{changed_at, length-changed}
use Rattle.i3c_base.specs.Sets.{is_in, IsLowest}
use Rattle.i3c_deftgts.specs.declared.entries.Entry.{Entry}
use Rattle.i3c_deftgts.specs.Entries.{device_at, entries_of, given_in, legacy_at, own_entry, upwards}
use Rattle.i3c_deftgts.proofs.UpwardLaws.{length-upwards}

-- the entry of a place, if it isn't empty
abbrev pub entry_here : List (Option Given) → ℕ → List Entry
entry_here given a = option_to_list (option_map (device_at a) (entry_in given a))

abbrev kept_in : ℕ → ℕ → Option Given → Option Given
kept_in set a place = if is_in set a then place else None

-- two sets that agree from an address on
agreeing : (n : ℕ) (given : List (Option Given)) (left left' : ℕ) → ((b : ℕ) → n ≤ b → is_in left' b ≡ is_in left b) → changed_from n (kept_in left) given ≡ changed_from n (kept_in left') given
agreeing n [] left left' same = refl
agreeing n (place ∷ given) left left' same = λ t. (if sym (same n (omega arith)) t then place else None) ∷ agreeing (suc n) given left left' (λ b l. same b (omega arith)) t

up_cons : (n : ℕ) (place : Option Given) (rest : List (Option Given)) → upwards device_at n (place ∷ rest) ≡ option_to_list (option_map (device_at n) place) ++ upwards device_at (suc n) rest
up_cons n None rest = refl
up_cons n (Some e) rest = refl

-- the lowest address of a set comes first
lowest_from : (n : ℕ) (given : List (Option Given)) (left left' a k : ℕ) → n + k ≡ a → ((b : ℕ) → b < a → is_in left b ≡ false) → is_in left a ≡ true → is_in left' a ≡ false → ((b : ℕ) → b ≢ a → is_in left' b ≡ is_in left b)
    → upwards device_at n (changed_from n (kept_in left) given) ≡ option_to_list (option_map (device_at a) (get_or given k None)) ++ upwards device_at n (changed_from n (kept_in left') given)
lowest_from n [] left left' a k l before has gone same = refl
lowest_from n (place ∷ given) left left' a zero l before has gone same =
    let e : n ≡ a = omega (arith, l) in
    let here : kept_in left n place ≡ place = cond-true (is_in left n) place None (ap (is_in left) e ∙ has) in
    let none : kept_in left' n place ≡ None = cond-false (is_in left' n) place None (ap (is_in left') e ∙ gone) in
    let rest = agreeing (suc n) given left left' (λ b past. same b (λ is. absurd (omega (arith, past, is, e)))) in
    let R = changed_from (suc n) (kept_in left) given in
    let R' = changed_from (suc n) (kept_in left') given in
    ap (λ p. upwards device_at n (p ∷ R)) here ∙ (up_cons n place R ∙ (ap (λ x. option_to_list (option_map (device_at n) place) ++ upwards device_at (suc n) x) rest
    ∙ (ap (λ m. option_to_list (option_map (device_at m) place) ++ upwards device_at (suc n) R') e ∙ sym (ap (λ p. option_to_list (option_map (device_at a) place) ++ upwards device_at n (p ∷ R')) none))))
lowest_from n (place ∷ given) left left' a (suc k) l before has gone same =
    let below : n < a = omega (arith, l) in
    let here : kept_in left n place ≡ None = cond-false (is_in left n) place None (before n below) in
    let none : kept_in left' n place ≡ None = cond-false (is_in left' n) place None (same n (λ e. absurd (omega (arith, below, e))) ∙ before n below) in
    let R = changed_from (suc n) (kept_in left) given in
    let R' = changed_from (suc n) (kept_in left') given in
    ap (λ p. upwards device_at n (p ∷ R)) here ∙ (lowest_from (suc n) given left left' a k (omega (arith, l)) before has gone same
    ∙ sym (ap (λ p. option_to_list (option_map (device_at a) (get_or given k None)) ++ upwards device_at n (p ∷ R')) none))

pub lowest_first : (given : List (Option Given)) (left left' a : ℕ) → IsLowest left a → is_in left' a ≡ false → ((b : ℕ) → b ≢ a → is_in left' b ≡ is_in left b)
    → upwards device_at 0 (given_in left given) ≡ entry_here given a ++ upwards device_at 0 (given_in left' given)
lowest_first given left left' a low gone same = lowest_from 0 given left left' a a (zero-add a) low.1 low.0 gone same

-- no address is left
pub none_left : (given : List (Option Given)) (left : ℕ) → ((a : ℕ) → is_in left a ≡ false) → upwards device_at 0 (given_in left given) ≡ []
none_left given left none = nothing 0 given
  where
    nothing : (n : ℕ) (given : List (Option Given)) → upwards device_at n (changed_from n (kept_in left) given) ≡ []
    nothing n [] = refl
    nothing n (place ∷ given) = rw (cond-false (is_in left n) place None (none n)) (nothing (suc n) given)

-- all but the own one
pub but_own : (given : List (Option Given)) (held others own : ℕ) → ((a : ℕ) → (is_in held a ≡ true) ↔ IsSome (entry_in given a)) → is_in others own ≡ false → ((a : ℕ) → a ≢ own → is_in others a ≡ is_in held a)
    → given_in others given ≡ set given own None
but_own given held others own is gone same = ext_get_or None (given_in others given) (set given own None) (length-changed (kept_in others) given ∙ sym (length-set given own None)) (λ a below.
    changed_at (kept_in others) given a None (none_if (is_in others a)) ∙ elim (cases_eq a own) [
      | inl e ↦ cond-false (is_in others a) _ None (ap (is_in others) e ∙ gone) ∙ sym (rw e (elim (cases_lt own (length given)) [ inl l ↦ get_or-set_same given own None None l | inr past ↦ rw (set_past given own None past) (get_or_past given own None past) ]))
      | inr other ↦ rest a other (is_in held a) refl ∙ sym (get_or-set_other given own a None None other)
    ])
  where
    none_if : (b : Bool) → ◌≡◌ {A = Option Given} (if b then None else None) None
    none_if true = refl
    none_if false = refl

    nothing : (o : Option Given) → (IsSome o → ⊥) → o ≡ None
    nothing None stands = refl
    nothing (Some e) stands = absurd (stands refl)

    rest : (a : ℕ) → a ≢ own → (b : Bool) → is_in held a ≡ b → kept_in others a (entry_in given a) ≡ entry_in given a
    rest a other true e = cond-true (is_in others a) _ None (same a other ∙ e)
    rest a other false e = cond-false (is_in others a) _ None (same a other ∙ e) ∙ sym (nothing (entry_in given a) (λ some. both_ways (is_in held a) e ((is a).1 some)))

-- the own entry is one of those that were given
count_own : {A B : Type 0} (f : A → B) (given : List (Option A)) (own : ℕ) → length (option_to_list (option_map f (get_or given own None))) + count_by is_some (set given own None) ≡ count_by is_some given
count_own {A} {B} f given own = elim (cases_lt own (length given)) [
  | inl below ↦
      let one = length_own (get_or given own None) in
      let more = sum_by-set (λ (o : Option A). cond (is_some o) 1 0) given own None None below in
      omega (arith, one, more)
  | inr past ↦
      let none = ap (λ o. length (option_to_list (option_map f o))) (get_or_past given own None past) in
      let same = ap (count_by (is_some {T = A})) (set_past given own None past) in
      omega (arith, none, same)
]
  where
    length_own : (o : Option A) → length (option_to_list (option_map f o)) ≡ cond (is_some o) 1 0
    length_own None = refl
    length_own (Some x) = refl

-- as many entries as addresses were given and legacy targets declared
pub length-own_and_others : (table : Table) (own : ℕ) → length (own_entry table own) + length (upwards device_at 0 (set table.given own None)) ≡ count_by is_some table.given
length-own_and_others table own =
    let many = length-upwards device_at (set table.given own None) 0 in
    let counted = count_own (device_at own) table.given own in
    omega (arith, many, counted)

pub length-entries_of : (table : Table) (own : ℕ) → length (entries_of table own) ≡ count_by is_some table.given + count_by is_some table.legacy
length-entries_of table own =
    let many = length-own_and_others table own in
    let targets = length-upwards legacy_at table.legacy 0 in
    let whole = length-append (own_entry table own) (upwards device_at 0 (set table.given own None) ++ upwards legacy_at 0 table.legacy) in
    let rest = length-append (upwards device_at 0 (set table.given own None)) (upwards legacy_at 0 table.legacy) in
    omega (arith, many, targets, whole, rest)

-- the list after the place of the lowest address, by whether it is empty
pub pushed_here : (given : List (Option Given)) (left left' a : ℕ) (before now whole : List Entry) → IsLowest left a → is_in left' a ≡ false → ((b : ℕ) → b ≢ a → is_in left' b ≡ is_in left b)
    → now ≡ before ++ entry_here given a → before ++ upwards device_at 0 (given_in left given) ≡ whole → now ++ upwards device_at 0 (given_in left' given) ≡ whole
pushed_here given left left' a before now whole low gone same is so_far =
    ap (λ e. e ++ upwards device_at 0 (given_in left' given)) is ∙ (append_assoc before (entry_here given a) (upwards device_at 0 (given_in left' given)) ∙ (ap (λ e. before ++ e) (sym (lowest_first given left left' a low gone same)) ∙ so_far))

-- there is room for the entry of the lowest address
pub room_for : (given : List (Option Given)) (left left' a most : ℕ) (e : Given) (before whole : List Entry) → IsLowest left a → is_in left' a ≡ false → ((b : ℕ) → b ≢ a → is_in left' b ≡ is_in left b)
    → entry_in given a ≡ Some e → before ++ upwards device_at 0 (given_in left given) ≡ whole → length whole ≤ most → length before < most
room_for given left left' a most e before whole low gone same stands so_far few =
    let here = ap length (lowest_first given left left' a low gone same) in
    let one = ap (λ o. length (option_to_list (option_map (device_at a) o))) stands in
    let both = length-append (entry_here given a) (upwards device_at 0 (given_in left' given)) in
    let all = length-append before (upwards device_at 0 (given_in left given)) in
    let long = ap length so_far in
    omega (arith, here, one, both, all, long, few)
