-- The rows and the legacy targets of a list, one after the other.
use Rattle.std.proofs.Common.{◌≡◌, ◌≢◌, ℕ, zero, suc, min, length-append, ◌+◌, ◌≤◌, ◌<◌, ◌⊎◌, inl, inr, Bool, true, false, not, ◌||◌, nat_eq, nat_le, ◌==◌, cond, if◌then◌else◌, List, [], ◌∷◌, ◌++◌, length, map, take, get_or, set, Option, Some, None, option_map, is_some, count_by, Result, Ok, Err, MatchResult, OnOk, OnErr, sym, refl, ap, ◌∙◌, arith}
use Rattle.std.specs.List.{cons_option, filter_map, AllByRecursion, IsDistinct}
use Rattle.std.proofs.lemmas.Bool.{and_parts, cases_lt, cond-true, cond-false, eq-eqb, le-leb, lt-leb, leb-true}
use Rattle.std.proofs.lemmas.List.{append-nil, length-take, take-map, take-append-le, take_all, take_more}
use Rattle.std.proofs.lemmas.List.Elements.{filter_map-append, All-take}
use Rattle.std.proofs.lemmas.Map.Keys.{IsDistinct-cons, IsDistinct-head, IsDistinct-tail}
use Rattle.std.proofs.lemmas.Option.{none-some, same_Some}
use Rattle.i3c_base.specs.declared.range.TheConstants.{ADDRESSES}
use Rattle.i3c_base.specs.declared.identity.Lvr.{Lvr}
use Rattle.i3c_base.specs.Covered.{Table}
use Rattle.i3c_base.specs.State.{Board, IsUsable, declared_in, is_usable, no_entries, no_identities}
use Rattle.i3c_base.proofs.Lookups.{no_identities_at}
use Rattle.i3c_legacy.specs.declared.faults.LegacyFault.{LegacyFault}
use Rattle.i3c_legacy.specs.declared.faults.LegacyFault.TheVariants.{LegacyAddress, LegacyTwice, TooManyLegacy}
use Rattle.i3c_legacy.specs.declared.legacies.TheConstants.{LEGACIES}
use Rattle.i3c_base.specs.State.{is_static}
use Rattle.i3c_legacy.specs.Declaring.{first_fault, is_taken}
use Rattle.i3c_legacy.specs.Rows.{places, row_at, HasOwnAddresses}
use Rattle.i3c_legacy.proofs.RowLaws.{count-places, places_at, places_push}
use Rattle.i3c_table.proofs.Reset.{entries-nil}
use Rattle.i3c_table.specs.declared.row.Row.{Row}
use Rattle.i3c_table.specs.Putting.{MayPut, with_row}
use Rattle.i3c_table.specs.Rows.{entries, entry_of_row}
use Rattle.i3c_deftgts.specs.declared.entries.Entry.{Entry}
use Rattle.i3c_deftgts.specs.declared.entries.Entry.TheVariants.{Device, Legacy}
use Rattle.i3c_deftgts.specs.Copies.{legacies_in, row_in, table_of, target_in}
use Rattle.i3c_deftgts.specs.Entries.{address_of, has_twice, is_among}
use Rattle.i3c_deftgts.proofs.PickLaws.{before, own_picked, passed_over, row_unpicked, take_absent}

abbrev pub Target : Type 0
Target = ℕ × Lvr

abbrev pub static_of : Target → ℕ
static_of target = target.0

abbrev pub lvr_of : Target → Lvr
lvr_of target = target.1

-- a picked row or target has its entry's address
pub same_target : (entry : Entry) (target : Target) → target_in entry ≡ Some target → static_of target ≡ address_of entry
same_target (Device address dcr bcr fixed) target h = absurd (none-some target h)
same_target (Legacy address lvr) target h = at (is_static address) h
  where
    at : (b : Bool) → ◌≡◌ {A = Option Target} (cond b (Some (address, lvr)) None) (Some target) → static_of target ≡ address
    at true e = ap static_of (sym (same_Some (address, lvr) target e))
    at false e = absurd (none-some target e)

static_below : (a : ℕ) → is_static a ≡ true → a < ADDRESSES
static_below a s = let at_most = leb-true a 0x77 (and_parts (nat_le 0x08 a) (nat_le a 0x77) s).1 in omega arith

pub small_target : (entry : Entry) (target : Target) → target_in entry ≡ Some target → static_of target < ADDRESSES
small_target (Device address dcr bcr fixed) target h = absurd (none-some target h)
small_target (Legacy address lvr) target h = at (is_static address) refl h
  where
    at : (b : Bool) → is_static address ≡ b → ◌≡◌ {A = Option Target} (cond b (Some (address, lvr)) None) (Some target) → static_of target < ADDRESSES
    at true s e = let same = ap static_of (same_Some (address, lvr) target e) in let below = static_below address s in omega (arith, same, below)
    at false s e = absurd (none-some target e)

pub same_row : (entry : Entry) (row : Row) → row_in entry ≡ Some row → row.address ≡ address_of entry
same_row (Legacy address lvr) row h = absurd (none-some row h)
same_row (Device address dcr bcr fixed) row h = at (is_usable address) h
  where
    at : (b : Bool) → cond b (Some (record { address = address; bcr = bcr; dcr = dcr; identity = None; fixed = fixed })) None ≡ Some row → row.address ≡ address
    at true e = ap (λ (r : Row). r.address) (sym (same_Some _ row e))
    at false e = absurd (none-some row e)

-- what the test of an address says
pub usable : (a : ℕ) → is_usable a ≡ true → IsUsable a
usable a h =
    let low = and_parts (nat_le 0x08 a) _ h in
    let high = and_parts (nat_le a 0x77) _ low.1 in
    let first = and_parts (not (a == 0x3E)) _ high.1 in
    let second = and_parts (not (a == 0x5E)) _ first.1 in
    let third = and_parts (not (a == 0x6E)) (not (a == 0x76)) second.1 in
    (leb-true 0x08 a low.0, leb-true a 0x77 high.0, differs 0x3E first.0, differs 0x5E second.0, differs 0x6E third.0, differs 0x76 third.1)
  where
    differs : (b : ℕ) → not (a == b) ≡ true → a ≢ b
    differs b e same = let is = eq-eqb a b same in let other : not (a == b) ≡ false = ap not is in cc

pub usable_row : (entry : Entry) (row : Row) → row_in entry ≡ Some row → IsUsable row.address
usable_row (Legacy address lvr) row h = absurd (none-some row h)
usable_row (Device address dcr bcr fixed) row h = at (is_usable address) refl h
  where
    at : (b : Bool) → is_usable address ≡ b → cond b (Some (record { address = address; bcr = bcr; dcr = dcr; identity = None; fixed = fixed })) None ≡ Some row → IsUsable row.address
    at true u e = let same : address ≡ row.address = ap (λ (r : Row). r.address) (same_Some _ row e) in rw (sym same) (usable address u)
    at false u e = absurd (none-some row e)

pub small_row : (entry : Entry) (row : Row) → row_in entry ≡ Some row → row.address < ADDRESSES
small_row entry row h = let at_most = (usable_row entry row h).1 in omega (arith, at_most)

-- what is picked of one entry more
pub picked_more : {R : Type 0} (pick : Entry → Option R) (list : List Entry) (i : ℕ) (entry : Entry) → i < length list → entry ≡ get_or list i entry → filter_map pick (take (i + 1) list) ≡ filter_map pick (take i list) ++ cons_option (pick entry) []
picked_more pick list i entry l is = ap (filter_map pick) (take_more list i entry l ∙ ap (λ e. take i list ++ e ∷ []) (sym is)) ∙ filter_map-append pick (take i list) (entry ∷ [])

-- the tests of one more legacy target
abbrev chosen : Bool → Bool → Bool → Option LegacyFault
chosen static taken full = if not static then Some LegacyAddress else (if taken then Some LegacyTwice else (if full then Some TooManyLegacy else None))

added : {T P : Type 0} (r : Result T LegacyFault) (fault : Option LegacyFault) → fault ≡ None → MatchResult r (λ _. fault ≡ None) (λ told. fault ≡ Some told) → OnOk r P → P
added (Ok x) fault e h p = p
added (Err told) fault e h p = absurd (none-some told (sym e ∙ h))

left : {T P : Type 0} (r : Result T LegacyFault) (fault : Option LegacyFault) (told : LegacyFault) → fault ≡ Some told → MatchResult r (λ _. fault ≡ None) (λ told. fault ≡ Some told) → OnErr r P → P
left (Ok x) fault told e h p = absurd (none-some told (sym h ∙ e))
left (Err other) fault told e h p = p

-- the first ones of rows with addresses of their own
not_among_take : (a n : ℕ) (xs : List ℕ) → AllByRecursion (λ b. nat_eq a b ≡ false) xs → AllByRecursion (λ b. nat_eq a b ≡ false) (take n xs)
not_among_take a zero xs h = tt
not_among_take a (suc n) [] h = tt
not_among_take a (suc n) (b ∷ xs) h = (h.0, not_among_take a n xs h.1)

distinct_take : (n : ℕ) (xs : List ℕ) → IsDistinct nat_eq xs → IsDistinct nat_eq (take n xs)
unfolding IsDistinct
distinct_take zero xs h = tt
distinct_take (suc n) [] h = tt
distinct_take (suc n) (a ∷ xs) h = IsDistinct-cons nat_eq a (take n xs) (not_among_take a n xs (IsDistinct-head nat_eq a xs h)) (distinct_take n xs (IsDistinct-tail nat_eq a xs h))

own_take : (n : ℕ) (rows : List Target) → HasOwnAddresses static_of rows → HasOwnAddresses static_of (take n rows)
own_take n rows own = record {
  distinct = rw (← take-map) (distinct_take n (map static_of rows) own.distinct);
  in_range = All-take (λ row. static_of row < ADDRESSES) n rows own.in_range;
}

-- what a list tells of static addresses: its legacy targets, and no declared identities
abbrev pub told_by : List Entry → Board
told_by list = record { legacy = legacies_in list; declared = no_identities }

module _ {T : Type 0} (r : Result T LegacyFault) (list : List Entry) (i a : ℕ) (entry : Entry) (lvr : Lvr) (board new : Board) where
  targets : List Target
  targets = filter_map target_in (take i list)

  -- a target of the list is declared, or left out
  pub legacy_more : has_twice list ≡ false → i < length list → entry ≡ get_or list i entry → entry ≡ Legacy a lvr → board ≡ told_by (take i list)
      → MatchResult r (λ _. first_fault board a ≡ None) (λ told. first_fault board a ≡ Some told) → OnOk r (new ≡ record board { legacy = set board.legacy a (Some lvr) }) → OnErr r (new ≡ board) → new ≡ told_by (take (i + 1) list)
  unfolding targets
  legacy_more h l is here so_far tested ok err = by_static (is_static a) refl
    where
      legacies : List (Option Lvr)
      legacies = board.legacy

      before_it : legacies ≡ legacies_in (take i list)
      before_it = ap (λ (b : Board). b.legacy) so_far

      undeclared : board.declared ≡ no_identities
      undeclared = ap (λ (b : Board). b.declared) so_far

      with_legacies : {xs : List (Option Lvr)} → xs ≡ legacies_in (take (i + 1) list) → record board { legacy = xs } ≡ told_by (take (i + 1) list)
      with_legacies e = λ t. record { legacy = e t; declared = undeclared t }

      parts : (has_twice (take i list) ≡ false) × (is_among (address_of entry) (take i list) ≡ false)
      parts = before list i entry h l is

      own : HasOwnAddresses static_of targets
      own = own_picked static_of target_in same_target small_target (take i list) parts.0

      none : row_at static_of targets a ≡ None
      none = row_unpicked static_of target_in same_target a (take i list) (ap (λ e. is_among (address_of e) (take i list)) (sym here) ∙ parts.1)

      next : (o : Option Target) → target_in entry ≡ o → legacies_in (take (i + 1) list) ≡ places static_of lvr_of (take LEGACIES (targets ++ cons_option o []))
      next o e = ap (λ t. places static_of lvr_of (take LEGACIES t)) (picked_more target_in list i entry l is ∙ ap (λ p. targets ++ cons_option p []) e)

      by_room : is_static a ≡ true → new ≡ told_by (take (i + 1) list)
      by_room s = at (cases_lt (length targets) LEGACIES)
        where
          e : target_in entry ≡ Some (a, lvr)
          e = ap target_in here ∙ cond-true (is_static a) (Some (a, lvr)) None s

          own_kept : HasOwnAddresses static_of (take LEGACIES targets)
          own_kept = own_take LEGACIES targets own

          absent : row_at static_of (take LEGACIES targets) a ≡ None
          absent = take_absent static_of targets a LEGACIES none

          no_legacy : is_some (get_or legacies a None) ≡ false
          no_legacy = ap (λ g. is_some (get_or g a None)) before_it ∙ (ap is_some (places_at static_of lvr_of (take LEGACIES targets) a own_kept.in_range) ∙ ap (λ o. is_some (option_map lvr_of o)) absent)

          free : is_taken board a ≡ false
          free = ap (λ b. b || is_some (declared_in board.declared a)) no_legacy ∙ (ap (λ ds. is_some (declared_in ds a)) undeclared ∙ ap is_some (no_identities_at a))

          many : count_by is_some legacies ≡ length (take LEGACIES targets)
          many = ap (count_by is_some) before_it ∙ count-places static_of lvr_of (take LEGACIES targets) own_kept

          fault_is : (b : Bool) → nat_le LEGACIES (count_by is_some legacies) ≡ b → first_fault board a ≡ chosen true false b
          fault_is b full = ap (λ x. chosen x (is_taken board a) (nat_le LEGACIES (count_by is_some legacies))) s
              ∙ (ap (λ x. chosen true x (nat_le LEGACIES (count_by is_some legacies))) free ∙ ap (chosen true false) full)

          long : length (take LEGACIES targets) ≡ min LEGACIES (length targets)
          long = length-take LEGACIES targets

          at : (length targets < LEGACIES) ⊎ (LEGACIES ≤ length targets) → new ≡ told_by (take (i + 1) list)
          at (inl room) =
              let whole : take LEGACIES targets ≡ targets = take_all LEGACIES targets (omega arith) in
              let put = added r (first_fault board a) (fault_is false (lt-leb LEGACIES (count_by is_some legacies) (omega (arith, many, long, room)))) tested ok in
              put ∙ with_legacies (ap (λ g. set g a (Some lvr)) before_it
              ∙ (sym (places_push static_of lvr_of (take LEGACIES targets) (a, lvr) (static_below a s) absent)
              ∙ sym (next (Some (a, lvr)) e ∙ ap (places static_of lvr_of) (take_all LEGACIES (targets ++ (a, lvr) ∷ []) (omega (arith, room, length-append targets ((a, lvr) ∷ []))) ∙ ap (λ t. t ++ (a, lvr) ∷ []) (sym whole)))))
          at (inr full) =
              left r (first_fault board a) TooManyLegacy (fault_is true (le-leb LEGACIES (count_by is_some legacies) (omega (arith, many, long, full)))) tested err
              ∙ with_legacies (before_it ∙ sym (next (Some (a, lvr)) e ∙ ap (places static_of lvr_of) (take-append-le LEGACIES targets ((a, lvr) ∷ []) full)))

      by_static : (b : Bool) → is_static a ≡ b → new ≡ told_by (take (i + 1) list)
      by_static false s =
          left r (first_fault board a) LegacyAddress (ap (λ b. chosen b (is_taken board a) (nat_le LEGACIES (count_by is_some legacies))) s) tested err
          ∙ with_legacies (before_it ∙ sym (next None (ap target_in here ∙ cond-false (is_static a) (Some (a, lvr)) None s) ∙ ap (λ t. places static_of lvr_of (take LEGACIES t)) (append-nil targets)))
      by_static true s = by_room s

-- a device's entry declares no target
pub legacy_same : (list : List Entry) (i : ℕ) (entry : Entry) (board new : Board) → i < length list → entry ≡ get_or list i entry → target_in entry ≡ None → board ≡ told_by (take i list) → new ≡ board → new ≡ told_by (take (i + 1) list)
legacy_same list i entry board new l is none so_far same =
    same ∙ (so_far ∙ ap (λ t. record { legacy = places static_of lvr_of (take LEGACIES t); declared = no_identities }) (sym (picked_more target_in list i entry l is ∙ (ap (λ o. filter_map target_in (take i list) ++ cons_option o []) none ∙ append-nil (filter_map target_in (take i list))))))

-- the table after the first entries' rows
abbrev pub part : List Entry → ℕ → Table
part list i = record { given = entries (filter_map row_in (take i list)); legacy = legacies_in list; declared = no_identities; listed = false }

pub part_none : (list : List Entry) (board : Board) (table : Table) → table ≡ record { given = no_entries; legacy = board.legacy; declared = board.declared; listed = false } → board ≡ told_by list → table ≡ part list 0
part_none list board table is same =
    is ∙ (ap (λ (b : Board). record { given = no_entries; legacy = b.legacy; declared = b.declared; listed = false }) same
    ∙ ap (λ g. record { given = g; legacy = legacies_in list; declared = no_identities; listed = false }) (sym entries-nil))

pub part_all : (list : List Entry) (i : ℕ) (table : Table) → length list ≤ i → table ≡ part list i → table ≡ table_of list
part_all list i table past is = is ∙ ap (λ es. record { given = entries (filter_map row_in es); legacy = legacies_in list; declared = no_identities; listed = false }) (take_all i list past)

no_target : (entry : Entry) (row : Row) → row_in entry ≡ Some row → target_in entry ≡ None
no_target (Device address dcr bcr fixed) row h = refl
no_target (Legacy address lvr) row h = absurd (none-some row h)

abbrev pub row_address : Row → ℕ
row_address row = row.address

module _ (list : List Entry) (i : ℕ) (entry : Entry) (table : Table) where
  pub part_same : i < length list → entry ≡ get_or list i entry → row_in entry ≡ None → table ≡ part list i → table ≡ part list (i + 1)
  part_same l is none so_far =
      so_far ∙ ap (λ rows. record { given = entries rows; legacy = legacies_in list; declared = no_identities; listed = false })
      (sym (picked_more row_in list i entry l is ∙ (ap (λ o. filter_map row_in (take i list) ++ cons_option o []) none ∙ append-nil (filter_map row_in (take i list)))))

  no_row : has_twice list ≡ false → i < length list → entry ≡ get_or list i entry → (row : Row) → row_in entry ≡ Some row → row_at row_address (filter_map row_in (take i list)) row.address ≡ None
  no_row h l is row here =
      row_unpicked row_address row_in same_row row.address (take i list) (ap (λ a. is_among a (take i list)) (same_row entry row here) ∙ (before list i entry h l is).1)

  -- a row may be put: it is usable, and no entry has its address
  pub may_put : has_twice list ≡ false → i < length list → entry ≡ get_or list i entry → (row : Row) → row_in entry ≡ Some row → table ≡ part list i → MayPut table row
  may_put h l is row here so_far = inl (usable_row entry row here, free_row, free_target, free_declared)
    where
      free_declared : declared_in table.declared row.address ≡ None
      free_declared = ap (λ t. declared_in t.declared row.address) so_far ∙ no_identities_at row.address

      own_rows : HasOwnAddresses row_address (filter_map row_in (take i list))
      own_rows = own_picked row_address row_in same_row small_row (take i list) (before list i entry h l is).0

      own_targets : HasOwnAddresses static_of (take LEGACIES (filter_map target_in list))
      own_targets = own_take LEGACIES (filter_map target_in list) (own_picked static_of target_in same_target small_target list h)

      free_row : get_or table.given row.address None ≡ None
      free_row = ap (λ t. get_or t.given row.address None) so_far
          ∙ (places_at row_address entry_of_row (filter_map row_in (take i list)) row.address own_rows.in_range ∙ ap (option_map entry_of_row) (no_row h l is row here))

      absent : row_at static_of (filter_map target_in list) row.address ≡ None
      absent = ap (row_at static_of (filter_map target_in list)) (same_row entry row here ∙ ap address_of is)
          ∙ passed_over static_of target_in same_target list i entry h l (ap target_in (sym is) ∙ no_target entry row here)

      free_target : get_or table.legacy row.address None ≡ None
      free_target = ap (λ t. get_or t.legacy row.address None) so_far
          ∙ (places_at static_of lvr_of (take LEGACIES (filter_map target_in list)) row.address own_targets.in_range
          ∙ ap (option_map lvr_of) (take_absent static_of (filter_map target_in list) row.address LEGACIES absent))

  pub part_more : has_twice list ≡ false → i < length list → entry ≡ get_or list i entry → (row : Row) (new : Table) → row_in entry ≡ Some row → table ≡ part list i → new ≡ with_row row table → new ≡ part list (i + 1)
  part_more h l is row new here so_far put =
      put ∙ (ap (with_row row) so_far ∙ ap (λ g. record { given = g; legacy = legacies_in list; declared = no_identities; listed = false })
      (sym (ap entries (picked_more row_in list i entry l is ∙ ap (λ o. filter_map row_in (take i list) ++ cons_option o []) here)
      ∙ places_push row_address entry_of_row (filter_map row_in (take i list)) row (small_row entry row here) (no_row h l is row here))))
