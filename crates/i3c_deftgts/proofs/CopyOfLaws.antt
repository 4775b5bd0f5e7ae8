-- The list of a table gives the table back, except for what is kept for identities.
use Rattle.std.proofs.Common.{◌≡◌, ℕ, zero, suc, ◌+◌, ◌≤◌, true, false, not, ◌==◌, List, [], ◌∷◌, ◌++◌, length, map, take, get_or, set, Option, Some, None, IfSome, IsTrue, is_some, count_by, option_map, ◌⊎◌, inl, inr, sym, refl, ap, ◌∙◌, arith, subst}
use Rattle.std.specs.List.{cons_option, filter_map}
use Rattle.std.proofs.lemmas.Bool.{and_from, cases_eq, cond-true, cond-false, eq-eqb, le-leb, ne_eqb}
use Rattle.std.proofs.lemmas.List.{append-nil, ext_get_or, get_or-map, get_or-set_other, length-map, take_all}
use Rattle.std.proofs.lemmas.List.Elements.{filter_map-append}
use Rattle.i3c_base.specs.declared.range.TheConstants.{ADDRESSES}
use Rattle.i3c_base.specs.declared.identity.Lvr.{Lvr}
use Rattle.i3c_base.specs.Covered.{Table}
use Rattle.i3c_base.specs.State.{Entry as Given, entry_in, IsFree, IsUsable, no_identities, unkept}
use Rattle.i3c_base.proofs.Lookups.{set_at}
use Rattle.i3c_legacy.specs.declared.legacies.TheConstants.{LEGACIES}
use Rattle.i3c_base.specs.State.{is_static}
use Rattle.i3c_legacy.specs.Rows.{places, row_at}
use Rattle.i3c_legacy.proofs.RowLaws.{length-places, places_at}
use Rattle.i3c_table.specs.declared.row.Row.{Row}
use Rattle.i3c_table.specs.Rows.{entries, entry_of_row}
use Rattle.i3c_deftgts.specs.declared.entries.Entry.{Entry}
use Rattle.i3c_base.specs.State.{is_usable}
use Rattle.i3c_deftgts.specs.Copies.{copy_of, legacies_in, row_in, table_of, target_in}
use Rattle.i3c_deftgts.specs.Entries.{address_of, device_at, entries_of, has_twice, legacy_at, upwards}
use Rattle.i3c_deftgts.proofs.CopyLaws.{lvr_of, row_address, same_row, same_target, small_row, small_target, static_of, Target}
use Rattle.i3c_deftgts.proofs.DistinctLaws.{among_below, entries_once, own_is, some_at, stood_before}
use Rattle.i3c_deftgts.proofs.PickLaws.{own_picked, row_unpicked}
use Rattle.i3c_deftgts.proofs.UpwardLaws.{length-upwards}

-- what is picked of entries upwards, where each is picked
module _ {A R : Type 0} (entry : ℕ → A → Entry) (of : (n : ℕ) (x : A) → address_of (entry n x) ≡ n) (address : R → ℕ) (pick : Entry → Option R) (same : (e : Entry) (row : R) → pick e ≡ Some row → address row ≡ address_of e) (row : ℕ → A → R) where
  -- each entry is picked, as this row
  abbrev ArePicked : ℕ → List (Option A) → Type 0
  ArePicked b xs = (k : ℕ) → IfSome (get_or xs k None) (λ x. pick (entry (b + k) x) ≡ Some (row (b + k) x))

  later_picked : (place : Option A) (xs : List (Option A)) (b : ℕ) → ArePicked b (place ∷ xs) → ArePicked (suc b) xs
  later_picked place xs b h k = let e : b + suc k ≡ suc b + k = omega arith in let P : ℕ → Type 0 = λ n. IfSome (get_or xs k None) (λ x. pick (entry n x) ≡ Some (row n x)) in subst P e (h (suc k))

  picked_from : (xs : List (Option A)) (b k : ℕ) → ArePicked b xs → row_at address (filter_map pick (upwards entry b xs)) (b + k) ≡ option_map (row (b + k)) (get_or xs k None)
  picked_from [] b zero h = refl
  picked_from [] b (suc k) h = refl
  picked_from (None ∷ xs) b zero h = row_unpicked address pick same (b + 0) (upwards entry (suc b) xs) (among_below entry of xs (suc b) (b + 0) (omega arith))
  picked_from (None ∷ xs) b (suc k) h =
      let next : b + suc k ≡ suc b + k = omega arith in
      ap (row_at address (filter_map pick (upwards entry (suc b) xs))) next ∙ (picked_from xs (suc b) k (later_picked None xs b h) ∙ ap (λ n. option_map (row n) (get_or xs k None)) (sym next))
  picked_from (Some x ∷ xs) b k h =
      let here : pick (entry b x) ≡ Some (row b x) = (let e : b + 0 ≡ b = omega arith in let P : ℕ → Type 0 = λ n. pick (entry n x) ≡ Some (row n x) in subst P e (h 0)) in
      let at : address (row b x) ≡ b = same (entry b x) (row b x) here ∙ of b x in
      ap (λ o. row_at address (cons_option o (filter_map pick (upwards entry (suc b) xs))) (b + k)) here ∙ found k at (picked_from xs (suc b)) (later_picked (Some x) xs b h)
    where
      found : (k : ℕ) → address (row b x) ≡ b → ((j : ℕ) → ArePicked (suc b) xs → row_at address (filter_map pick (upwards entry (suc b) xs)) (suc b + j) ≡ option_map (row (suc b + j)) (get_or xs j None)) → ArePicked (suc b) xs
          → row_at address (row b x ∷ filter_map pick (upwards entry (suc b) xs)) (b + k) ≡ option_map (row (b + k)) (get_or (Some x ∷ xs) k None)
      found zero at rest h =
          let e : b + 0 ≡ b = omega arith in
          cond-true (address (row b x) == b + 0) (Some (row b x)) (row_at address (filter_map pick (upwards entry (suc b) xs)) (b + 0)) (eq-eqb (address (row b x)) (b + 0) (at ∙ sym e)) ∙ ap (λ n. Some (row n x)) (sym e)
      found (suc k) at rest h =
          let next : b + suc k ≡ suc b + k = omega arith in
          cond-false (address (row b x) == b + suc k) (Some (row b x)) (row_at address (filter_map pick (upwards entry (suc b) xs)) (b + suc k)) (ne_eqb (address (row b x)) (b + suc k) (λ e. omega (arith, at, e)))
          ∙ (ap (row_at address (filter_map pick (upwards entry (suc b) xs))) next ∙ (rest k h ∙ ap (λ n. option_map (row n) (get_or xs k None)) (sym next)))

  pub picked_at : (xs : List (Option A)) (a : ℕ) → ((k : ℕ) → IfSome (get_or xs k None) (λ x. pick (entry k x) ≡ Some (row k x))) → row_at address (filter_map pick (upwards entry 0 xs)) a ≡ option_map (row a) (get_or xs a None)
  picked_at xs a h =
      let from : 0 + a ≡ a = omega arith in
      ap (row_at address (filter_map pick (upwards entry 0 xs))) (sym from)
      ∙ (picked_from xs 0 a (λ k. let e : k ≡ 0 + k = omega arith in let P : ℕ → Type 0 = λ n. IfSome (get_or xs k None) (λ x. pick (entry n x) ≡ Some (row n x)) in subst P e (h k))
      ∙ ap (λ n. option_map (row n) (get_or xs a None)) from)

-- the pick of entries none of which is picked
none_picked : {A R : Type 0} (entry : ℕ → A → Entry) (pick : Entry → Option R) → ((n : ℕ) (x : A) → pick (entry n x) ≡ None) → (xs : List (Option A)) (b : ℕ) → filter_map pick (upwards entry b xs) ≡ []
none_picked entry pick none [] b = refl
none_picked entry pick none (None ∷ xs) b = none_picked entry pick none xs (suc b)
none_picked entry pick none (Some x ∷ xs) b = ap (λ o. cons_option o (filter_map pick (upwards entry (suc b) xs))) (none b x) ∙ none_picked entry pick none xs (suc b)

length-picked : {R : Type 0} (pick : Entry → Option R) (list : List Entry) → length (filter_map pick list) ≤ length list
length-picked pick [] = omega arith
length-picked {R = R} pick (entry ∷ rest) = at (pick entry) (length-picked pick rest)
  where
    at : (o : Option R) → length (filter_map pick rest) ≤ length rest → length (cons_option o (filter_map pick rest)) ≤ suc (length rest)
    at None h = omega (arith, h)
    at (Some row) h = omega (arith, h)

-- the rows and the targets of a table's entries
abbrev row_of : ℕ → Given → Row
row_of a g = record { address = a; bcr = g.bcr; dcr = g.dcr; identity = None; fixed = g.fixed }

abbrev target_of : ℕ → Lvr → Target
target_of a lvr = (a, lvr)

pub is_usable-true : (a : ℕ) → IsUsable a → is_usable a ≡ true
is_usable-true a u =
    and_from _ _ (le-leb 0x08 a u.0) (and_from _ _ (le-leb a 0x77 u.1) (and_from _ _ (ap not (ne_eqb a 0x3E u.2)) (and_from _ _ (ap not (ne_eqb a 0x5E u.3)) (and_from _ _ (ap not (ne_eqb a 0x6E u.4)) (ap not (ne_eqb a 0x76 u.5))))))

device_row : (a : ℕ) (g : Given) → IsUsable a → row_in (device_at a g) ≡ Some (row_of a g)
device_row a g u = cond-true (is_usable a) (Some (row_of a g)) None (is_usable-true a u)

-- a fact of all elements holds where one place was emptied
pub still : {A : Type 0} (P : A → Type 0) (xs : List (Option A)) (own a : ℕ) → IfSome (get_or xs a None) P → IfSome (get_or (set xs own None) a None) P
still P xs own a h = elim (cases_eq a own) [
  | inl same ↦ emptied (set_at xs own a None None)
  | inr other ↦ subst (λ o. IfSome o P) (sym (get_or-set_other xs own a None None other)) h
]
  where
    emptied : ((a ≡ own) × (get_or (set xs own None) a None ≡ None)) ⊎ (get_or (set xs own None) a None ≡ get_or xs a None) → IfSome (get_or (set xs own None) a None) P
    emptied (inl e) = subst (λ o. IfSome o P) (sym e.1) tt
    emptied (inr e) = subst (λ o. IfSome o P) (sym e) h

pub if_stands : {A : Type 0} (P : Type 0) (o : Option A) (Q : A → Type 0) → (is_some o ≡ true → P) → ((x : A) → P → Q x) → IfSome o Q
if_stands P None Q h k = tt
if_stands P (Some x) Q h k = k x (h refl)

module _ (table : Table) (own : ℕ) (g : Given) (here : entry_in table.given own ≡ Some g) (usable : (a : ℕ) → IfSome (entry_in table.given a) (λ _. IsUsable a)) (apart : (a : ℕ) → IfSome (entry_in table.given a) (λ _. IsFree table.legacy a))
    (static : (a : ℕ) → IfSome (get_or table.legacy a None) (λ _. IsTrue (is_static a))) where
  abbrev others : List Entry
  others = upwards device_at 0 (set table.given own None)

  abbrev targets : List Entry
  targets = upwards legacy_at 0 table.legacy

  abbrev list : List Entry
  list = device_at own g ∷ (others ++ targets)

  own_usable : IsUsable own
  own_usable = some_at (IsUsable own) (entry_in table.given own) (usable own) (ap is_some here)

  once : has_twice list ≡ false
  once = ap (λ es. has_twice (es ++ (others ++ targets))) (sym (own_is table own g here)) ∙ entries_once table own g here apart

  rows_are : filter_map row_in list ≡ row_of own g ∷ filter_map row_in others
  rows_are =
      ap (λ o. cons_option o (filter_map row_in (others ++ targets))) (device_row own g own_usable)
      ∙ ap (λ rows. row_of own g ∷ rows) (filter_map-append row_in others targets ∙ (ap (λ rows. filter_map row_in others ++ rows) (none_picked legacy_at row_in (λ n x. refl) table.legacy 0) ∙ append-nil (filter_map row_in others)))

  entry_back : (o : Option Given) (a : ℕ) → option_map entry_of_row (option_map (row_of a) o) ≡ option_map unkept o
  entry_back None a = refl
  entry_back (Some x) a = refl

  row_found : (a : ℕ) → option_map entry_of_row (row_at row_address (filter_map row_in list) a) ≡ option_map unkept (entry_in table.given a)
  row_found a = ap (λ rows. option_map entry_of_row (row_at row_address rows a)) rows_are ∙ elim (cases_eq own a) [
    | inl same ↦
        ap (option_map entry_of_row) (cond-true (own == a) (Some (row_of own g)) (row_at row_address (filter_map row_in others) a) (eq-eqb own a same))
        ∙ (entry_back (Some g) own
        ∙ (ap (option_map unkept) (sym here) ∙ ap (λ b. option_map unkept (entry_in table.given b)) same))
    | inr other ↦
        ap (option_map entry_of_row) (cond-false (own == a) (Some (row_of own g)) (row_at row_address (filter_map row_in others) a) (ne_eqb own a other)
        ∙ picked_at device_at (λ n x. refl) row_address row_in same_row row_of (set table.given own None) a
        (λ k. if_stands (IsUsable k) (get_or (set table.given own None) k None) (λ x. row_in (device_at k x) ≡ Some (row_of k x)) (λ there. some_at (IsUsable k) (entry_in table.given k) (usable k) (stood_before table.given own k there)) (λ x u. device_row k x u)))
        ∙ (entry_back (get_or (set table.given own None) a None) a
        ∙ ap (option_map unkept) (get_or-set_other table.given own a None None (λ e. other (sym e))))
  ]

  given_back : length table.given ≡ ADDRESSES → entries (filter_map row_in list) ≡ map (option_map unkept) table.given
  given_back long =
      ext_get_or None (entries (filter_map row_in list)) (map (option_map unkept) table.given)
      (length-places row_address entry_of_row (filter_map row_in list) ∙ sym (length-map table.given (option_map unkept) ∙ long))
      (λ a below. places_at row_address entry_of_row (filter_map row_in list) a (own_picked row_address row_in same_row small_row list once).in_range
      ∙ (row_found a ∙ sym (get_or-map (option_map unkept) table.given a None None (let whole = length-places row_address entry_of_row (filter_map row_in list) in omega (arith, below, whole, long)))))

  targets_are : filter_map target_in list ≡ filter_map target_in targets
  targets_are = filter_map-append target_in others targets ∙ ap (λ ts. ts ++ filter_map target_in targets) (none_picked device_at target_in (λ n x. refl) (set table.given own None) 0)

  lvr_back : (o : Option Lvr) (a : ℕ) → option_map lvr_of (option_map (target_of a) o) ≡ o
  lvr_back None a = refl
  lvr_back (Some lvr) a = refl

  target_found : (a : ℕ) → option_map lvr_of (row_at static_of (filter_map target_in targets) a) ≡ get_or table.legacy a None
  target_found a =
      ap (option_map lvr_of) (picked_at legacy_at (λ n x. refl) static_of target_in same_target target_of table.legacy a
      (λ k. if_stands (IsTrue (is_static k)) (get_or table.legacy k None) (λ lvr. target_in (legacy_at k lvr) ≡ Some (target_of k lvr)) (some_at (IsTrue (is_static k)) (get_or table.legacy k None) (static k)) (λ lvr s. cond-true (is_static k) (Some (target_of k lvr)) None s)))
      ∙ lvr_back (get_or table.legacy a None) a

  legacy_back : length table.legacy ≡ ADDRESSES → count_by is_some table.legacy ≤ LEGACIES → places static_of lvr_of (take LEGACIES (filter_map target_in list)) ≡ table.legacy
  legacy_back long few =
      let most = length-picked target_in targets in
      let many = length-upwards legacy_at table.legacy 0 in
      let all : take LEGACIES (filter_map target_in list) ≡ filter_map target_in targets = ap (take LEGACIES) targets_are ∙ take_all LEGACIES (filter_map target_in targets) (omega (arith, most, many, few)) in
      ap (places static_of lvr_of) all ∙ ext_get_or None (places static_of lvr_of (filter_map target_in targets)) table.legacy (length-places static_of lvr_of (filter_map target_in targets) ∙ sym long)
      (λ a below. places_at static_of lvr_of (filter_map target_in targets) a (rw (← targets_are) (own_picked static_of target_in same_target small_target list once).in_range) ∙ target_found a)

  back : length table.given ≡ ADDRESSES → length table.legacy ≡ ADDRESSES → count_by is_some table.legacy ≤ LEGACIES → table_of list ≡ copy_of table
  back long all few = ap (λ rows. record { given = rows; legacy = legacies_in list; declared = no_identities; listed = false }) (given_back long) ∙ ap (λ l. record { given = map (option_map unkept) table.given; legacy = l; declared = no_identities; listed = false }) (legacy_back all few)

-- the table of a table's own list
pub copied_back : (table : Table) (own : ℕ) → is_some (entry_in table.given own) ≡ true → ((a : ℕ) → IfSome (entry_in table.given a) (λ _. IsUsable a)) → ((a : ℕ) → IfSome (entry_in table.given a) (λ _. IsFree table.legacy a))
    → ((a : ℕ) → IfSome (get_or table.legacy a None) (λ _. IsTrue (is_static a))) → length table.given ≡ ADDRESSES → length table.legacy ≡ ADDRESSES → count_by is_some table.legacy ≤ LEGACIES → table_of (entries_of table own) ≡ copy_of table
copied_back table own stands usable apart static long all few = of_own (entry_in table.given own) refl stands
  where
    of_own : (o : Option Given) → entry_in table.given own ≡ o → is_some o ≡ true → table_of (entries_of table own) ≡ copy_of table
    of_own None e there = cc
    of_own (Some g) e there = ap (λ es. table_of (es ++ (upwards device_at 0 (set table.given own None) ++ upwards legacy_at 0 table.legacy))) (own_is table own g e) ∙ back table own g e usable apart static long all few
