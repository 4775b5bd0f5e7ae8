-- The row at an address, of rows with addresses of their own.
use Rattle.std.proofs.Common.{◌≡◌, ◌≢◌, ℕ, zero, suc, ◌+◌, ◌<◌, Bool, true, false, cond, List, [], ◌∷◌, ◌++◌, map, length, get_or, set, take, replicate, Option, Some, None, option_map, is_some, count_by, nat_eq, ◌==◌, sym, refl, ap, ◌∙◌, arith, inl, inr, zero-add}
use Rattle.std.specs.List.{All, AllByRecursion, Contains, IsDistinct, range_with_len}
use Rattle.std.specs.Option.{option_or}
use Rattle.std.proofs.lemmas.Bool.{cases_eq, cases_lt, cond-true, cond-false, eq-eqb, eqb-true, ne_eqb, eqb-false}
use Rattle.std.proofs.lemmas.List.{get_or-set_other, get_or-set_same, get_or_past, length-set, take_more, length-replicate, get_or-replicate, map_push}
use Rattle.std.proofs.Math.Seq.{map-set_same}
use Rattle.std.proofs.lemmas.List.Elements.{All-from_recursion, All-push, recursion_from_All}
use Rattle.std.proofs.lemmas.List.Folds.{find-append, find_past, list_any_none, sum_by-replicate}
use Rattle.std.proofs.lemmas.List.FromFn.{length-map-range_with_len, get_or-map-range_with_len, fill_by_all}
use Rattle.std.proofs.lemmas.List.Sums.{sum_by-set}
use Rattle.std.proofs.lemmas.Map.Keys.{IsDistinct-head, IsDistinct-tail, IsDistinct-push}
use Rattle.std.proofs.lemmas.Cmp.{nat_eq_equiv}
use Rattle.std.proofs.lemmas.Option.{none-some, same_Some}
use Rattle.i3c_base.specs.declared.range.TheConstants.{ADDRESSES}
use Rattle.i3c_legacy.specs.Rows.{row_at, places, HasOwnAddresses}

-- a list that a function makes of its places' numbers, before and after one place changed
written_same : {X : Type 0} (f g : ℕ → X) (n k : ℕ) (v : X) → k < n → g k ≡ v → ((a : ℕ) → a ≢ k → g a ≡ f a) → map g (range_with_len 0 n) ≡ set (map f (range_with_len 0 n)) k v
written_same f g n k v l here others =
    let long : length (map f (range_with_len 0 n)) ≡ n = length-map-range_with_len f 0 n in
    sym (fill_by_all g (set (map f (range_with_len 0 n)) k v) n v (length-set (map f (range_with_len 0 n)) k v ∙ long) (λ a below. elim (cases_eq a k) [
      | inl e ↦ rw e (get_or-set_same (map f (range_with_len 0 n)) k v v (omega (arith, long)) ∙ sym here)
      | inr other ↦ get_or-set_other (map f (range_with_len 0 n)) k a v v other ∙ (get_or-map-range_with_len f 0 n a a v below (zero-add a) ∙ sym (others a other))
    ]))

module _ {R : Type 0} (address : R → ℕ) where
  none_by : (rows : List R) (a : ℕ) → AllByRecursion (λ row. address row ≢ a) rows → row_at address rows a ≡ None
  none_by [] a h = refl
  none_by (row ∷ rows) a h = cond-false (address row == a) (Some row) (row_at address rows a) (ne_eqb (address row) a h.0) ∙ none_by rows a h.1

  -- no row has the address
  pub row_none : (rows : List R) (a : ℕ) → All (λ row. address row ≢ a) rows → row_at address rows a ≡ None
  row_none rows a h = none_by rows a (recursion_from_All (λ row. address row ≢ a) rows h)

  apart_at : (a : ℕ) (rows : List R) (i : ℕ) (d : R) → AllByRecursion (λ b. nat_eq a b ≡ false) (map address rows) → i < length rows → a ≢ address (get_or rows i d)
  apart_at a [] i d h l = absurd (omega arith)
  apart_at a (row ∷ rows) zero d h l = eqb-false a (address row) h.0
  apart_at a (row ∷ rows) (suc i) d h l = apart_at a rows i d h.1 (omega arith)

  -- each row is the one that is found at its address
  pub row_here : (rows : List R) (i : ℕ) (d : R) → IsDistinct nat_eq (map address rows) → i < length rows → row_at address rows (address (get_or rows i d)) ≡ Some (get_or rows i d)
  row_here [] i d h l = absurd (omega arith)
  row_here (row ∷ rows) zero d h l = cond-true (address row == address row) (Some row) (row_at address rows (address row)) (eq-eqb (address row) (address row) refl)
  row_here (row ∷ rows) (suc i) d h l =
      cond-false (address row == address (get_or rows i d)) (Some row) (row_at address rows (address (get_or rows i d))) (ne_eqb (address row) (address (get_or rows i d)) (apart_at (address row) rows i d (IsDistinct-head nat_eq (address row) (map address rows) h) (omega arith)))
      ∙ row_here rows i d (IsDistinct-tail nat_eq (address row) (map address rows) h) (omega arith)

  -- the rows before one have other addresses
  pub row_before : (rows : List R) (i : ℕ) (d : R) → IsDistinct nat_eq (map address rows) → i < length rows → row_at address (take i rows) (address (get_or rows i d)) ≡ None
  row_before [] i d h l = absurd (omega arith)
  row_before (row ∷ rows) zero d h l = refl
  row_before (row ∷ rows) (suc i) d h l =
      cond-false (address row == address (get_or rows i d)) (Some row) (row_at address (take i rows) (address (get_or rows i d))) (ne_eqb (address row) (address (get_or rows i d)) (apart_at (address row) rows i d (IsDistinct-head nat_eq (address row) (map address rows) h) (omega arith)))
      ∙ row_before rows i d (IsDistinct-tail nat_eq (address row) (map address rows) h) (omega arith)

  row_from_cond : (row : R) (rows : List R) (a : ℕ) (b : Bool) → (b ≡ true → address row ≡ a) → ((y : R) → row_at address rows a ≡ Some y → (address y ≡ a) × Contains rows y) → (y : R) → cond b (Some row) (row_at address rows a) ≡ Some y → (address y ≡ a) × Contains (row ∷ rows) y
  row_from_cond row rows a true here rest y h =
      let same : row ≡ y = same_Some row y h in
      (ap address (sym same) ∙ here refl, (0, omega arith, same))
  row_from_cond row rows a false here rest y h =
      let found = rest y h in
      let at : Contains rows y = found.1 in
      (found.0, (suc at.0, (let l : at.0 < length rows = at.1 in omega arith), at.2))

  -- what is found at an address is a row with that address
  pub row_from : (rows : List R) (a : ℕ) (y : R) → row_at address rows a ≡ Some y → (address y ≡ a) × Contains rows y
  row_from [] a y h = absurd (none-some y h)
  row_from (row ∷ rows) a y h = row_from_cond row rows a (address row == a) (eqb-true (address row) a) (row_from rows a) y h

  -- the row itself, or none
  row_alone : (row : R) (a : ℕ) → a ≢ address row → row_at address (row ∷ []) a ≡ None
  row_alone row a n = cond-false (address row == a) (Some row) None (ne_eqb (address row) a (λ e. n (sym e)))

  or_none : (o : Option R) → option_or o None ≡ o
  or_none None = refl
  or_none (Some row) = refl

  -- no rows
  pub no_rows : HasOwnAddresses address []
  unfolding IsDistinct
  no_rows = record { distinct = tt; in_range = λ k d l. absurd (omega arith) }

  -- one more row
  pub row_push_other : (rows : List R) (row : R) (a : ℕ) → a ≢ address row → row_at address (rows ++ row ∷ []) a ≡ row_at address rows a
  row_push_other rows row a n = find-append (λ r. address r == a) rows (row ∷ []) ∙ (ap (option_or (row_at address rows a)) (row_alone row a n) ∙ or_none (row_at address rows a))

  pub row_push_here : (rows : List R) (row : R) → row_at address rows (address row) ≡ None → row_at address (rows ++ row ∷ []) (address row) ≡ Some row
  row_push_here rows row none =
      find-append (λ r. address r == address row) rows (row ∷ [])
      ∙ (ap (λ o. option_or o (row_at address (row ∷ []) (address row))) none
      ∙ cond-true (address row == address row) (Some row) None (eq-eqb (address row) (address row) refl))

  -- a row in the place of the one with its address
  pub row_set_other : (rows : List R) (i : ℕ) (row d : R) (a : ℕ) → address (get_or rows i d) ≡ address row → a ≢ address row → row_at address (set rows i row) a ≡ row_at address rows a
  row_set_other rows i row d a same n = find_past (λ r. address r == a) rows i row d (ne_eqb (address (get_or rows i d)) a (λ e. n (sym e ∙ same))) (ne_eqb (address row) a (λ e. n (sym e)))

  pub addresses_set : (rows : List R) (i : ℕ) (row d : R) → address (get_or rows i d) ≡ address row → map address (set rows i row) ≡ map address rows
  addresses_set rows i row d same = map-set_same address rows i row d (sym same)

  pub not_among : (a : ℕ) (rows : List R) → AllByRecursion (λ row. address row ≢ a) rows → AllByRecursion (λ b. nat_eq a b ≡ false) (map address rows)
  not_among a [] h = tt
  not_among a (row ∷ rows) h = (ne_eqb a (address row) (λ e. h.0 (sym e)), not_among a rows h.1)

  missing_at : (rows : List R) (a : ℕ) → IsDistinct nat_eq (map address rows) → row_at address rows a ≡ None → All (λ row. address row ≢ a) rows
  missing_at rows a h none k d l e = let here = row_here rows k d h l in let there : row_at address rows (address (get_or rows k d)) ≡ None = ap (row_at address rows) e ∙ none in cc

  pub distinct_push : (rows : List R) (row : R) → IsDistinct nat_eq (map address rows) → row_at address rows (address row) ≡ None → IsDistinct nat_eq (map address (rows ++ row ∷ []))
  distinct_push rows row h none =
      let others = recursion_from_All (λ r. address r ≢ address row) rows (missing_at rows (address row) h none) in
      let absent = list_any_none (nat_eq (address row)) (map address rows) (All-from_recursion (λ b. nat_eq (address row) b ≡ false) (map address rows) (not_among (address row) rows others)) in
      rw map_push (IsDistinct-push nat_eq_equiv (map address rows) (address row) h absent)

  -- one more row with an address of its own
  pub own_push : (rows : List R) (row : R) → HasOwnAddresses address rows → address row < ADDRESSES → row_at address rows (address row) ≡ None → HasOwnAddresses address (rows ++ row ∷ [])
  own_push rows row h l none = record { distinct = distinct_push rows row h.distinct none; in_range = All-push (λ r. address r < ADDRESSES) rows row h.in_range l }

module _ {R A : Type 0} (address : R → ℕ) (value : R → A) where
  pub length-places : (rows : List R) → length (places address value rows) ≡ ADDRESSES
  unfolding places
  length-places rows = length-map-range_with_len (λ a. option_map value (row_at address rows a)) 0 ADDRESSES

  places_below : (rows : List R) (a : ℕ) → a < ADDRESSES → get_or (places address value rows) a None ≡ option_map value (row_at address rows a)
  unfolding places
  places_below rows a l = get_or-map-range_with_len (λ b. option_map value (row_at address rows b)) 0 ADDRESSES a a None l (zero-add a)

  -- each address has the value of its row
  pub places_at : (rows : List R) (a : ℕ) → All (λ row. address row < ADDRESSES) rows → get_or (places address value rows) a None ≡ option_map value (row_at address rows a)
  places_at rows a h = elim (cases_lt a ADDRESSES) [
    | inl l ↦ places_below rows a l
    | inr past ↦ get_or_past (places address value rows) a None (rw length-places past)
        ∙ ap (option_map value) (sym (row_none address rows a (λ k d l. let small = h k d l in λ e. (omega arith))))
  ]

  pub places-nil : places address value [] ≡ replicate ADDRESSES None
  unfolding places
  places-nil = sym (fill_by_all (λ a. None) (replicate ADDRESSES None) ADDRESSES None (length-replicate {A = Option A} ADDRESSES None) (λ a l. get_or-replicate {A = Option A} ADDRESSES a None None l))

  -- a change of the row at one address
  places_written : (old new : List R) (row : R) → address row < ADDRESSES → row_at address new (address row) ≡ Some row → ((a : ℕ) → a ≢ address row → row_at address new a ≡ row_at address old a)
      → places address value new ≡ set (places address value old) (address row) (Some (value row))
  unfolding places
  places_written old new row l here others =
      written_same (λ a. option_map value (row_at address old a)) (λ a. option_map value (row_at address new a)) ADDRESSES (address row) (Some (value row)) l
      (ap (option_map value) here) (λ a n. ap (option_map value) (others a n))

  pub places_push : (rows : List R) (row : R) → address row < ADDRESSES → row_at address rows (address row) ≡ None → places address value (rows ++ row ∷ []) ≡ set (places address value rows) (address row) (Some (value row))
  places_push rows row l none = places_written rows (rows ++ row ∷ []) row l (row_push_here address rows row none) (row_push_other address rows row)

  pub places_set : (rows : List R) (i : ℕ) (row d : R) → address row < ADDRESSES → IsDistinct nat_eq (map address rows) → i < length rows → address (get_or rows i d) ≡ address row
      → places address value (set rows i row) ≡ set (places address value rows) (address row) (Some (value row))
  places_set rows i row d l distinct within same =
      let kept : IsDistinct nat_eq (map address (set rows i row)) = rw (addresses_set address rows i row d same) distinct in
      let put : get_or (set rows i row) i row ≡ row = get_or-set_same rows i row row within in
      let found : row_at address (set rows i row) (address row) ≡ Some row =
      ap (λ r. row_at address (set rows i row) (address r)) (sym put) ∙ (row_here address (set rows i row) i row kept (omega (arith, length-set rows i row)) ∙ ap Some put) in
      places_written rows (set rows i row) row l found (λ a n. row_set_other address rows i row d a same n)

  -- one row more of the first ones
  pub places_more : (rows : List R) (i : ℕ) (row : R) → HasOwnAddresses address rows → i < length rows → row ≡ get_or rows i row → places address value (take (i + 1) rows) ≡ set (places address value (take i rows)) (address row) (Some (value row))
  places_more rows i row own l is =
      let seven_bits : address row < ADDRESSES = let at = own.in_range i row l in let same = ap address is in omega (arith, at, same) in
      let none : row_at address (take i rows) (address row) ≡ None = ap (λ r. row_at address (take i rows) (address r)) is ∙ row_before address rows i row own.distinct l in
      ap (places address value) (take_more rows i row l ∙ ap (λ r. take i rows ++ r ∷ []) (sym is)) ∙ places_push (take i rows) row seven_bits none

  places_cons : (rows : List R) (row : R) → address row < ADDRESSES → places address value (row ∷ rows) ≡ set (places address value rows) (address row) (Some (value row))
  places_cons rows row l = places_written rows (row ∷ rows) row l
      (cond-true (address row == address row) (Some row) (row_at address rows (address row)) (eq-eqb (address row) (address row) refl))
      (λ a n. cond-false (address row == a) (Some row) (row_at address rows a) (ne_eqb (address row) a (λ e. n (sym e))))

  count_by_recursion : (rows : List R) → IsDistinct nat_eq (map address rows) → AllByRecursion (λ row. address row < ADDRESSES) rows → count_by is_some (places address value rows) ≡ length rows
  count_by_recursion [] distinct below = rw places-nil (sum_by-replicate (λ (o : Option A). cond (is_some o) 1 0) ADDRESSES None)
  count_by_recursion (row ∷ rows) distinct below =
      let none : row_at address rows (address row) ≡ None = row_none address rows (address row) (λ k d l e. apart_at address (address row) rows k d (IsDistinct-head nat_eq (address row) (map address rows) distinct) l (sym e)) in
      let empty : get_or (places address value rows) (address row) None ≡ None = places_below rows (address row) below.0 ∙ ap (option_map value) none in
      let one : ◌≡◌ {A = ℕ} (cond (is_some (get_or (places address value rows) (address row) None)) 1 0) 0 = ap (λ o. cond (is_some o) 1 0) empty in
      let more : count_by is_some (set (places address value rows) (address row) (Some (value row))) + cond (is_some (get_or (places address value rows) (address row) None)) 1 0 ≡ count_by is_some (places address value rows) + 1
      = sum_by-set (λ o. cond (is_some o) 1 0) (places address value rows) (address row) (Some (value row)) None (let long = length-places rows in let l = below.0 in omega arith) in
      let rest = count_by_recursion rows (IsDistinct-tail nat_eq (address row) (map address rows) distinct) below.1 in
      ap (count_by is_some) (places_cons rows row below.0) ∙ omega (arith, one, more, rest)

  some_false : (o : Option R) → is_some (option_map value o) ≡ false → o ≡ None
  some_false None h = refl
  some_false (Some row) h = cc

  -- an address without a row has no value
  pub row_missing : (rows : List R) (a : ℕ) → All (λ row. address row < ADDRESSES) rows → is_some (get_or (places address value rows) a None) ≡ false → row_at address rows a ≡ None
  row_missing rows a below h = some_false (row_at address rows a) (ap is_some (sym (places_at rows a below)) ∙ h)

  -- as many addresses as rows
  pub count-places : (rows : List R) → HasOwnAddresses address rows → count_by is_some (places address value rows) ≡ length rows
  count-places rows h = count_by_recursion rows h.distinct (recursion_from_All (λ row. address row < ADDRESSES) rows h.in_range)
