-- Rows that are among others, and when both say the same of each address.
use Rattle.std.proofs.Common.{◌≡◌, ℕ, ◌+◌, ◌<◌, ◌≤◌, List, map, length, get_or, take, Option, Some, None, option_map, sym, refl, ap, ◌∙◌, subst}
use Rattle.std.specs.List.{All, Contains, range_with_len}
use Rattle.std.proofs.lemmas.List.{take_all}
use Rattle.std.proofs.lemmas.List.Elements.{All-contains, All-more}
use Rattle.i3c_base.proofs.Lookups.{option_map_from}
use Rattle.i3c_base.specs.declared.range.TheConstants.{ADDRESSES}
use Rattle.i3c_legacy.specs.Rows.{places, row_at, HasOwnAddresses}
use Rattle.i3c_legacy.proofs.RowLaws.{places_at, row_from, row_here}

-- ---- the rows so far

module _ {R : Type 0} (rows others : List R) (i : ℕ) where
  pub among_more : (row : R) → All (Contains others) (take i rows) → i < length rows → row ≡ get_or rows i row → Contains others row → All (Contains others) (take (i + 1) rows)
  among_more row so_far l is has = All-more (Contains others) rows i row l so_far (subst (Contains others) is has)

  pub among_all : All (Contains others) (take i rows) → length rows ≤ i → All (Contains others) rows
  among_all so_far past = subst (All (Contains others)) (take_all i rows past) so_far

  pub not_among : (row : R) → i < length rows → row ≡ get_or rows i row → All (Contains others) rows → Contains others row
  not_among row l is among = subst (Contains others) (sym is) (among i row l)

-- ---- what they say of each address

module _ {R A : Type 0} (address : R → ℕ) (value : R → A) (one : (r s : R) → address r ≡ address s → value r ≡ value s → r ≡ s) where
  row_among : (rows others : List R) (a : ℕ) (row : R) → HasOwnAddresses address others → All (Contains others) rows → row_at address rows a ≡ Some row → row_at address others a ≡ Some row
  row_among rows others a row own among e =
      let at = row_from address rows a row e in
      let there : Contains others row = All-contains (Contains others) rows row among at.1 in
      ap (row_at address others) (sym (ap address there.2 ∙ at.0)) ∙ (row_here address others there.0 row own.distinct there.1 ∙ ap Some there.2)

  same_row : (rows others : List R) (a : ℕ) → HasOwnAddresses address rows → HasOwnAddresses address others → All (Contains others) rows → All (Contains rows) others → row_at address rows a ≡ row_at address others a
  same_row rows others a own others_own among back = go (row_at address rows a) (row_at address others a) refl refl
    where
      go : (o p : Option R) → row_at address rows a ≡ o → row_at address others a ≡ p → row_at address rows a ≡ row_at address others a
      go (Some row) p e f = e ∙ sym (row_among rows others a row others_own among e)
      go None None e f = e ∙ sym f
      go None (Some row) e f = row_among others rows a row own back f ∙ sym f

  pub same_places : (rows others : List R) → HasOwnAddresses address rows → HasOwnAddresses address others → All (Contains others) rows → All (Contains rows) others → places address value rows ≡ places address value others
  unfolding places
  same_places rows others own others_own among back = λ t. map (λ a. option_map value (same_row rows others a own others_own among back t)) (range_with_len 0 ADDRESSES)

  pub among_same : (rows others : List R) → HasOwnAddresses address rows → HasOwnAddresses address others → places address value rows ≡ places address value others → All (Contains others) rows
  among_same rows others own others_own same k d l =
      let row : R = get_or rows k d in
      let there : option_map value (row_at address others (address row)) ≡ Some (value row) =
      sym (places_at address value others (address row) others_own.in_range)
      ∙ (ap (λ g. get_or g (address row) None) (sym same) ∙ (places_at address value rows (address row) own.in_range ∙ ap (option_map value) (row_here address rows k d own.distinct l))) in
      let found = option_map_from value (row_at address others (address row)) (value row) there in
      let at = row_from address others (address row) found.0 found.1 in
      subst (Contains others) (one found.0 row at.0 found.2) at.1
