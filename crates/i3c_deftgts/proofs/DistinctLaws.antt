-- The entries of a table's list have addresses of their own.
use Rattle.std.proofs.Common.{◌≡◌, ℕ, zero, suc, ◌+◌, ◌<◌, Bool, true, false, ◌||◌, ◌==◌, List, [], ◌∷◌, ◌++◌, length, get_or, set, Option, Some, None, IfSome, is_some, option_map, inl, inr, sym, refl, ap, ◌∙◌, arith}
use Rattle.std.specs.Option.{option_to_list}
use Rattle.std.proofs.lemmas.Bool.{cases_eq, cases_lt, eq-eqb, ne_eqb, or_from, or_parts}
use Rattle.std.proofs.lemmas.List.{get_or-set_other, get_or-set_same, get_or_past, set_past}
use Rattle.std.proofs.lemmas.List.Folds.{list_any-append}
use Rattle.i3c_base.specs.Covered.{Table}
use Rattle.i3c_base.specs.State.{Entry as Given, entry_in, IsFree}
use Rattle.i3c_deftgts.specs.declared.entries.Entry.{Entry}
use Rattle.i3c_deftgts.specs.Entries.{address_of, device_at, entries_of, has_twice, is_among, legacy_at, own_entry, upwards}

or_true : (b : Bool) → (b || true) ≡ true
or_true true = refl
or_true false = refl

module _ {A : Type 0} (entry : ℕ → A → Entry) (of : (n : ℕ) (x : A) → address_of (entry n x) ≡ n) where
  -- no address below the first one
  pub among_below : (xs : List (Option A)) (b a : ℕ) → a < b → is_among a (upwards entry b xs) ≡ false
  among_below [] b a l = refl
  among_below (None ∷ xs) b a l = among_below xs (suc b) a (omega arith)
  among_below (Some x ∷ xs) b a l = or_from (address_of (entry b x) == a) (is_among a (upwards entry (suc b) xs)) (ne_eqb (address_of (entry b x)) a (λ e. let at = of b x in omega (arith, at, e, l))) (among_below xs (suc b) a (omega arith))

  -- an address is among the entries if its place holds something
  among_from : (xs : List (Option A)) (b k : ℕ) → is_among (b + k) (upwards entry b xs) ≡ is_some (get_or xs k None)
  among_from [] b zero = refl
  among_from [] b (suc k) = refl
  among_from (None ∷ xs) b zero = among_below xs (suc b) (b + 0) (omega arith)
  among_from (None ∷ xs) b (suc k) =
      let next : b + suc k ≡ suc b + k = omega arith in
      ap (λ a. is_among a (upwards entry (suc b) xs)) next ∙ among_from xs (suc b) k
  among_from (Some x ∷ xs) b zero =
      let here : address_of (entry b x) ≡ b + 0 = let at = of b x in omega (arith, at) in
      ap (λ t. t || is_among (b + 0) (upwards entry (suc b) xs)) (eq-eqb (address_of (entry b x)) (b + 0) here)
  among_from (Some x ∷ xs) b (suc k) =
      let next : b + suc k ≡ suc b + k = omega arith in
      ap (λ t. t || is_among (b + suc k) (upwards entry (suc b) xs)) (ne_eqb (address_of (entry b x)) (b + suc k) (λ e. let at = of b x in omega (arith, at, e)))
      ∙ (ap (λ a. is_among a (upwards entry (suc b) xs)) next ∙ among_from xs (suc b) k)

  pub among : (xs : List (Option A)) (a : ℕ) → is_among a (upwards entry 0 xs) ≡ is_some (get_or xs a None)
  among xs a = let from : a ≡ 0 + a = omega arith in ap (λ b. is_among b (upwards entry 0 xs)) from ∙ among_from xs 0 a

  pub once : (xs : List (Option A)) (b : ℕ) → has_twice (upwards entry b xs) ≡ false
  once [] b = refl
  once (None ∷ xs) b = once xs (suc b)
  once (Some x ∷ xs) b = or_from (is_among (address_of (entry b x)) (upwards entry (suc b) xs)) (has_twice (upwards entry (suc b) xs)) (among_below xs (suc b) (address_of (entry b x)) (let at = of b x in omega (arith, at))) (once xs (suc b))

-- lists without an address twice, appended
pub twice_append : (xs ys : List Entry) → has_twice xs ≡ false → has_twice ys ≡ false → ((a : ℕ) → is_among a xs ≡ true → is_among a ys ≡ false) → has_twice (xs ++ ys) ≡ false
twice_append [] ys h k apart = k
twice_append (x ∷ xs) ys h k apart =
    let parts = or_parts (is_among (address_of x) xs) (has_twice xs) h in
    let here : is_among (address_of x) (x ∷ xs) ≡ true = ap (λ b. b || is_among (address_of x) xs) (eq-eqb (address_of x) (address_of x) refl) in
    or_from (is_among (address_of x) (xs ++ ys)) (has_twice (xs ++ ys))
    (list_any-append (λ entry. address_of entry == address_of x) xs ys ∙ or_from (is_among (address_of x) xs) (is_among (address_of x) ys) parts.0 (apart (address_of x) here))
    (twice_append xs ys parts.1 k (λ a there. apart a (ap (λ b. (address_of x == a) || b) there ∙ or_true (address_of x == a))))

pub some_at : {A : Type 0} (P : Type 0) (o : Option A) → IfSome o (λ _. P) → is_some o ≡ true → P
some_at P None h e = cc
some_at P (Some x) h e = h

none_else : {A : Type 0} (given : List (Option A)) (own : ℕ) → is_some (get_or (set given own None) own None) ≡ false
none_else given own = elim (cases_lt own (length given)) [
  | inl below ↦ ap is_some (get_or-set_same given own None None below)
  | inr past ↦ ap (λ g. is_some (get_or g own None)) (set_past given own None past) ∙ ap is_some (get_or_past given own None past)
]

pub stood_before : {A : Type 0} (given : List (Option A)) (own a : ℕ) → is_some (get_or (set given own None) a None) ≡ true → is_some (get_or given a None) ≡ true
stood_before given own a e = elim (cases_eq a own) [
  | inl same ↦ let no = ap (λ b. is_some (get_or (set given own None) b None)) same ∙ none_else given own in cc
  | inr other ↦ sym (ap is_some (get_or-set_other given own a None None other)) ∙ e
]

-- the own entry, where there is one
pub own_is : (table : Table) (own : ℕ) (g : Given) → entry_in table.given own ≡ Some g → own_entry table own ≡ device_at own g ∷ []
own_is table own g e = ap (λ o. option_to_list (option_map (device_at own) o)) e

-- no two entries have one address
pub entries_once : (table : Table) (own : ℕ) (g : Given) → entry_in table.given own ≡ Some g → ((a : ℕ) → IfSome (entry_in table.given a) (λ _. IsFree table.legacy a)) → has_twice (entries_of table own) ≡ false
entries_once table own g e apart =
    let others : List Entry = upwards device_at 0 (set table.given own None) in
    let targets : List Entry = upwards legacy_at 0 table.legacy in
    let free : (a : ℕ) → is_some (entry_in table.given a) ≡ true → is_among a targets ≡ false =
    λ a there. among legacy_at (λ n x. refl) table.legacy a ∙ ap is_some (some_at (IsFree table.legacy a) (entry_in table.given a) (apart a) there) in
    let rest : has_twice (others ++ targets) ≡ false =
    twice_append others targets (once device_at (λ n x. refl) (set table.given own None) 0) (once legacy_at (λ n x. refl) table.legacy 0)
    (λ a there. free a (stood_before table.given own a (sym (among device_at (λ n x. refl) (set table.given own None) a) ∙ there))) in
    let alone : is_among own (others ++ targets) ≡ false =
    list_any-append (λ entry. address_of entry == own) others targets
    ∙ or_from (is_among own others) (is_among own targets) (among device_at (λ n x. refl) (set table.given own None) own ∙ none_else table.given own) (free own (ap is_some e)) in
    ap (λ es. has_twice (es ++ (others ++ targets))) (own_is table own g e) ∙ or_from (is_among own (others ++ targets)) (has_twice (others ++ targets)) alone rest

-- the same where the own address was given
pub owned_once : (table : Table) (own : ℕ) → is_some (entry_in table.given own) ≡ true → ((a : ℕ) → IfSome (entry_in table.given a) (λ _. IsFree table.legacy a)) → has_twice (entries_of table own) ≡ false
owned_once table own stands apart = at (entry_in table.given own) refl stands
  where
    at : (o : Option Given) → entry_in table.given own ≡ o → is_some o ≡ true → has_twice (entries_of table own) ≡ false
    at None e there = cc
    at (Some g) e there = entries_once table own g e apart
