-- Rows that are picked from entries with addresses of their own.
use Rattle.std.proofs.Common.{◌≡◌, ℕ, zero, suc, ◌+◌, ◌<◌, Bool, true, false, ◌||◌, nat_eq, ◌==◌, List, [], ◌∷◌, ◌++◌, length, map, take, get_or, Option, Some, None, sym, refl, ap, ◌∙◌, arith, cond}
use Rattle.std.specs.List.{cons_option, AllByRecursion, IsDistinct, filter_map}
use Rattle.std.proofs.lemmas.Bool.{cond-false, eqb-false, ne_eqb, or_parts}
use Rattle.std.proofs.lemmas.List.{take_more}
use Rattle.std.proofs.lemmas.List.Elements.{All-from_recursion}
use Rattle.std.proofs.lemmas.Option.{none-some}
use Rattle.std.proofs.lemmas.Map.Keys.{IsDistinct-cons}
use Rattle.i3c_base.specs.declared.range.TheConstants.{ADDRESSES}
use Rattle.i3c_legacy.specs.Rows.{row_at, HasOwnAddresses}
use Rattle.i3c_deftgts.specs.declared.entries.Entry.{Entry}
use Rattle.i3c_deftgts.specs.Entries.{address_of, has_twice, is_among}
use Rattle.i3c_deftgts.proofs.GatheringLaws.{twice_push}

-- the first ones of entries with addresses of their own have them too
absent_take : (a n : ℕ) (entries : List Entry) → is_among a entries ≡ false → is_among a (take n entries) ≡ false
absent_take a zero entries h = refl
absent_take a (suc n) [] h = refl
absent_take a (suc n) (entry ∷ rest) h =
    let parts = or_parts (address_of entry == a) (is_among a rest) h in
    ap (λ b. b || is_among a (take n rest)) parts.0 ∙ absent_take a n rest parts.1

own_take : (n : ℕ) (entries : List Entry) → has_twice entries ≡ false → has_twice (take n entries) ≡ false
own_take zero entries h = refl
own_take (suc n) [] h = refl
own_take (suc n) (entry ∷ rest) h =
    let parts = or_parts (is_among (address_of entry) rest) (has_twice rest) h in
    ap (λ b. b || has_twice (take n rest)) (absent_take (address_of entry) n rest parts.0) ∙ own_take n rest parts.1

-- an entry and those before it
pub before : (entries : List Entry) (i : ℕ) (entry : Entry) → has_twice entries ≡ false → i < length entries → entry ≡ get_or entries i entry → (has_twice (take i entries) ≡ false) × (is_among (address_of entry) (take i entries) ≡ false)
before entries i entry h l is =
    or_parts (has_twice (take i entries)) (is_among (address_of entry) (take i entries))
    (sym (twice_push (take i entries) entry) ∙ (ap has_twice (ap (λ e. take i entries ++ e ∷ []) is ∙ sym (take_more entries i entry l)) ∙ own_take (i + 1) entries h))

-- rows that are found with a row's address or not
pub take_absent : {R : Type 0} (address : R → ℕ) (rows : List R) (a n : ℕ) → row_at address rows a ≡ None → row_at address (take n rows) a ≡ None
take_absent address rows a zero h = refl
take_absent address [] a (suc n) h = refl
take_absent {R} address (row ∷ rows) a (suc n) h = at (address row == a) refl h (take_absent address rows a n)
  where
    at : (b : Bool) → (address row == a) ≡ b → cond b (Some row) (row_at address rows a) ≡ None → (row_at address rows a ≡ None → row_at address (take n rows) a ≡ None) → cond (address row == a) (Some row) (row_at address (take n rows) a) ≡ None
    at true e none rest = absurd (none-some row (sym none))
    at false e none rest = ap (λ b. cond b (Some row) (row_at address (take n rows) a)) e ∙ rest none

module _ {R : Type 0} (address : R → ℕ) (pick : Entry → Option R) (same : (entry : Entry) (row : R) → pick entry ≡ Some row → address row ≡ address_of entry) where
  -- no row has an address that no entry has
  pub row_unpicked : (a : ℕ) (entries : List Entry) → is_among a entries ≡ false → row_at address (filter_map pick entries) a ≡ None
  row_unpicked a [] h = refl
  row_unpicked a (entry ∷ rest) h = let parts = or_parts (address_of entry == a) (is_among a rest) h in of_pick (pick entry) refl parts.0 (row_unpicked a rest parts.1)
    where
      of_pick : (o : Option R) → pick entry ≡ o → (address_of entry == a) ≡ false → row_at address (filter_map pick rest) a ≡ None → row_at address (cons_option o (filter_map pick rest)) a ≡ None
      of_pick None e other none = none
      of_pick (Some row) e other none = cond-false (address row == a) (Some row) (row_at address (filter_map pick rest) a) (ap (λ b. b == a) (same entry row e) ∙ other) ∙ none

  not_among_picked : (a : ℕ) (entries : List Entry) → is_among a entries ≡ false → AllByRecursion (λ b. nat_eq a b ≡ false) (map address (filter_map pick entries))
  not_among_picked a [] h = tt
  not_among_picked a (entry ∷ rest) h = let parts = or_parts (address_of entry == a) (is_among a rest) h in of_pick (pick entry) refl parts.0 (not_among_picked a rest parts.1)
    where
      of_pick : (o : Option R) → pick entry ≡ o → (address_of entry == a) ≡ false → AllByRecursion (λ b. nat_eq a b ≡ false) (map address (filter_map pick rest)) → AllByRecursion (λ b. nat_eq a b ≡ false) (map address (cons_option o (filter_map pick rest)))
      of_pick None e other none = none
      of_pick (Some row) e other none = (ne_eqb a (address row) (λ at. eqb-false (address_of entry) a other (sym (same entry row e) ∙ sym at)), none)

  distinct_picked : (entries : List Entry) → has_twice entries ≡ false → IsDistinct nat_eq (map address (filter_map pick entries))
  unfolding IsDistinct
  distinct_picked [] h = tt
  distinct_picked (entry ∷ rest) h = let parts = or_parts (is_among (address_of entry) rest) (has_twice rest) h in of_pick (pick entry) refl parts.0 (distinct_picked rest parts.1)
    where
      of_pick : (o : Option R) → pick entry ≡ o → is_among (address_of entry) rest ≡ false → IsDistinct nat_eq (map address (filter_map pick rest)) → IsDistinct nat_eq (map address (cons_option o (filter_map pick rest)))
      of_pick None e absent_there distinct = distinct
      of_pick (Some row) e absent_there distinct = IsDistinct-cons nat_eq (address row) (map address (filter_map pick rest)) (not_among_picked (address row) rest (ap (λ a. is_among a rest) (same entry row e) ∙ absent_there)) distinct

  in_range_picked : ((entry : Entry) (row : R) → pick entry ≡ Some row → address row < ADDRESSES) → (entries : List Entry) → AllByRecursion (λ row. address row < ADDRESSES) (filter_map pick entries)
  in_range_picked small [] = tt
  in_range_picked small (entry ∷ rest) = of_pick (pick entry) refl (in_range_picked small rest)
    where
      of_pick : (o : Option R) → pick entry ≡ o → AllByRecursion (λ row. address row < ADDRESSES) (filter_map pick rest) → AllByRecursion (λ row. address row < ADDRESSES) (cons_option o (filter_map pick rest))
      of_pick None e all = all
      of_pick (Some row) e all = (small entry row e, all)

  -- the rows have addresses of their own
  pub own_picked : ((entry : Entry) (row : R) → pick entry ≡ Some row → address row < ADDRESSES) → (entries : List Entry) → has_twice entries ≡ false → HasOwnAddresses address (filter_map pick entries)
  own_picked small entries h = record { distinct = distinct_picked entries h; in_range = All-from_recursion (λ row. address row < ADDRESSES) (filter_map pick entries) (in_range_picked small entries) }

  -- an entry that isn't picked leaves its address to no row
  pub passed_over : (entries : List Entry) (i : ℕ) (d : Entry) → has_twice entries ≡ false → i < length entries → pick (get_or entries i d) ≡ None → row_at address (filter_map pick entries) (address_of (get_or entries i d)) ≡ None
  passed_over [] i d h l none = absurd (omega arith)
  passed_over (entry ∷ rest) zero d h l none =
      let parts = or_parts (is_among (address_of entry) rest) (has_twice rest) h in
      ap (λ o. row_at address (cons_option o (filter_map pick rest)) (address_of entry)) none ∙ row_unpicked (address_of entry) rest parts.0
  passed_over (entry ∷ rest) (suc i) d h l none =
      let parts = or_parts (is_among (address_of entry) rest) (has_twice rest) h in
      of_pick (pick entry) refl (apart (address_of entry) rest i parts.0 (omega arith)) (passed_over rest i d parts.1 (omega arith) none)
    where
      apart : (a : ℕ) (others : List Entry) (k : ℕ) → is_among a others ≡ false → k < length others → (address_of (get_or others k d) == a) ≡ false
      apart a [] k away below = absurd (omega arith)
      apart a (other ∷ others) zero away below = (or_parts (address_of other == a) (is_among a others) away).0
      apart a (other ∷ others) (suc k) away below = apart a others k (or_parts (address_of other == a) (is_among a others) away).1 (omega arith)

      of_pick : (o : Option R) → pick entry ≡ o → (address_of (get_or rest i d) == address_of entry) ≡ false → row_at address (filter_map pick rest) (address_of (get_or rest i d)) ≡ None → row_at address (cons_option o (filter_map pick rest)) (address_of (get_or rest i d)) ≡ None
      of_pick None e other rest_none = rest_none
      of_pick (Some row) e other rest_none =
          cond-false (address row == address_of (get_or rest i d)) (Some row) (row_at address (filter_map pick rest) (address_of (get_or rest i d)))
          (ne_eqb (address row) (address_of (get_or rest i d)) (λ at. eqb-false (address_of (get_or rest i d)) (address_of entry) other (sym at ∙ same entry row e))) ∙ rest_none
