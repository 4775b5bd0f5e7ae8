-- Rows, seen by their addresses, and the faults of one row more.
use Rattle.std.proofs.Common.{◌≡◌, ◌≢◌, ℕ, ◌<◌, Bool, true, false, not, List, [], ◌∷◌, ◌++◌, length, get_or, set, take, Option, Some, None, option_map, is_some, count_by, nat_le, IsTrue, IfSome, ◌+◌, ◌≤◌, sym, refl, ap, ◌∙◌, arith, if◌then◌else◌}
use Rattle.std.specs.List.{All, HoldsAt}
use Rattle.std.proofs.lemmas.Bool.{le-leb, lt-leb}
use Rattle.std.proofs.lemmas.List.{take_all}
use Rattle.std.proofs.lemmas.List.Elements.{All-contains, All-push}
use Rattle.i3c_base.specs.declared.identity.Identity.{Identity}
use Rattle.i3c_base.specs.declared.identity.Lvr.{Lvr}
use Rattle.i3c_base.specs.declared.range.TheConstants.{ADDRESSES}
use Rattle.i3c_base.specs.State.{Board, fixed_of, is_static, no_identities, no_lvrs}
use Rattle.i3c_legacy.specs.declared.faults.DeclareFault.{DeclareFault}
use Rattle.i3c_legacy.specs.declared.faults.LegacyFault.{LegacyFault}
use Rattle.i3c_legacy.specs.declared.legacies.Declared.{Declared}
use Rattle.i3c_legacy.specs.declared.legacies.DeclaredIdentity.{DeclaredIdentity}
use Rattle.i3c_legacy.specs.declared.legacies.TheConstants.{DECLARED, LEGACIES}
use Rattle.i3c_legacy.specs.Declaring.{first_declare_fault, first_fault, is_taken}
use Rattle.i3c_legacy.specs.Rows.{places, row_at, HasOwnAddresses}
use Rattle.i3c_legacy.proofs.FixedLaws.{static_below}
use Rattle.i3c_legacy.proofs.RowLaws.{length-places, places-nil, places_at, places_more, places_push, row_from, row_here, row_none, row_missing, own_push, count-places}

abbrev pub address_of : Declared → ℕ
address_of d = d.address

abbrev pub lvrs_of : List Declared → List (Option Lvr)
lvrs_of rows = places address_of (λ d. d.lvr) rows

abbrev pub home_of : DeclaredIdentity → ℕ
home_of d = d.address

abbrev pub identities_of : List DeclaredIdentity → List (Option Identity)
identities_of rows = places home_of (λ d. d.identity) rows

-- no rows
pub view_none : (rows : List Declared) → rows ≡ [] → lvrs_of rows ≡ no_lvrs
unfolding no_lvrs
view_none rows e = rw e (places-nil address_of (λ d. d.lvr))

pub identities_none : (rows : List DeclaredIdentity) → rows ≡ [] → identities_of rows ≡ no_identities
unfolding no_identities
identities_none rows e = rw e (places-nil home_of (λ d. d.identity))

module _ {R A : Type 0} (address : R → ℕ) (value : R → A) where
  pub found : (rows : List R) (there : List (Option A)) (i a : ℕ) (d : R) → HasOwnAddresses address rows → places address value rows ≡ there → i < length rows → HoldsAt (λ r. address r ≡ a) rows i
      → ◌≡◌ {A = Option A} (Some (value (get_or rows i d))) (get_or there a None)
  found rows there i a d own view l same =
      let here = row_here address rows i d own.distinct l in
      let at : row_at address rows a ≡ Some (get_or rows i d) = ap (row_at address rows) (sym (same d)) ∙ here in
      ap (option_map value) (sym at) ∙ (sym (places_at address value rows a own.in_range) ∙ ap (λ g. get_or g a None) view)

  pub missing : (rows : List R) (there : List (Option A)) (a : ℕ) → HasOwnAddresses address rows → places address value rows ≡ there → All (λ d. address d ≢ a) rows → ◌≡◌ {A = Option A} None (get_or there a None)
  missing rows there a own view none =
      ap (option_map value) (sym (row_none address rows a none)) ∙ (sym (places_at address value rows a own.in_range) ∙ ap (λ g. get_or g a None) view)

  pub long : (rows : List R) (there : List (Option A)) → places address value rows ≡ there → length there ≡ ADDRESSES
  long rows there view = ap length (sym view) ∙ length-places address value rows

  pub counted : (rows : List R) (there : List (Option A)) → HasOwnAddresses address rows → places address value rows ≡ there → count_by is_some there ≡ length rows
  counted rows there own view = ap (count_by is_some) (sym view) ∙ count-places address value rows own

  none_there : (rows : List R) (there : List (Option A)) (a : ℕ) → HasOwnAddresses address rows → places address value rows ≡ there → is_some (get_or there a None) ≡ false → row_at address rows a ≡ None
  none_there rows there a own view n = row_missing address value rows a own.in_range (ap (λ g. is_some (get_or g a None)) view ∙ n)

  -- one more row
  pub own_more : (rows : List R) (there : List (Option A)) (d : R) → HasOwnAddresses address rows → places address value rows ≡ there → is_static (address d) ≡ true → is_some (get_or there (address d) None) ≡ false → HasOwnAddresses address (rows ++ d ∷ [])
  own_more rows there d own view s n = own_push address rows d own (static_below (address d) s) (none_there rows there (address d) own view n)

  pub view_more : (rows : List R) (there : List (Option A)) (d : R) → HasOwnAddresses address rows → places address value rows ≡ there → is_static (address d) ≡ true → is_some (get_or there (address d) None) ≡ false
      → places address value (rows ++ d ∷ []) ≡ set there (address d) (Some (value d))
  view_more rows there d own view s n =
      places_push address value rows d (static_below (address d) s) (none_there rows there (address d) own view n) ∙ ap (λ g. set g (address d) (Some (value d))) view

  -- the rows so far, seen by address
  pub first_more : (rows : List R) (there : List (Option A)) (i : ℕ) (d : R) → HasOwnAddresses address rows → i < length rows → d ≡ get_or rows i d → there ≡ places address value (take i rows) → set there (address d) (Some (value d)) ≡ places address value (take (i + 1) rows)
  first_more rows there i d own l is so_far = rw so_far (sym (places_more address value rows i d own l is))

  pub first_all : (rows : List R) (there so_far : List (Option A)) (i : ℕ) → places address value rows ≡ there → length rows ≤ i → so_far ≡ places address value (take i rows) → so_far ≡ there
  first_all rows there so_far i view past is = is ∙ (ap (places address value) (take_all i rows past) ∙ view)

  -- rows have static addresses only
  pub static_alone : (rows : List R) (there : List (Option A)) (a : ℕ) → HasOwnAddresses address rows → All (λ r. IsTrue (is_static (address r))) rows → places address value rows ≡ there → IfSome (get_or there a None) (λ _. IsTrue (is_static a))
  static_alone rows there a own all view = from (row_at address rows a) refl (sym (places_at address value rows a own.in_range) ∙ ap (λ g. get_or g a None) view)
    where
      from : (o : Option R) → row_at address rows a ≡ o → option_map value (row_at address rows a) ≡ get_or there a None → IfSome (get_or there a None) (λ _. IsTrue (is_static a))
      from None e h = rw (sym h ∙ ap (option_map value) e) tt
      from (Some d) e h =
          let at = row_from address rows a d e in
          let its : IsTrue (is_static (address d)) = All-contains (λ r. IsTrue (is_static (address r))) rows d all at.1 in
          rw (sym h ∙ ap (option_map value) e) (rw (sym at.0) its)

pub static_more : (rows : List Declared) (d : Declared) → All (λ r. IsTrue (is_static r.address)) rows → is_static d.address ≡ true → All (λ r. IsTrue (is_static r.address)) (rows ++ d ∷ [])
static_more rows d all s = All-push (λ r. IsTrue (is_static r.address)) rows d all s

-- ---- the tests before one more target is declared

abbrev chosen : Bool → Bool → Bool → Option LegacyFault
chosen static taken full = if not static then Some LegacyFault.LegacyAddress else (if taken then Some LegacyFault.LegacyTwice else (if full then Some LegacyFault.TooManyLegacy else None))

chosen_by : (board : Board) (a : ℕ) (full : Bool) → is_static a ≡ true → is_taken board a ≡ false → nat_le LEGACIES (count_by is_some board.legacy) ≡ full → first_fault board a ≡ chosen true false full
chosen_by board a full s t f = λ k. chosen (s k) (t k) (f k)

pub no_room : (board : Board) (a n : ℕ) → is_static a ≡ true → is_taken board a ≡ false → count_by is_some board.legacy ≡ n → n ≡ LEGACIES → first_fault board a ≡ Some LegacyFault.TooManyLegacy
no_room board a n s t many f = chosen_by board a true s t (le-leb LEGACIES (count_by is_some board.legacy) (omega (arith, many, f)))

pub no_fault : (board : Board) (a n : ℕ) → is_static a ≡ true → is_taken board a ≡ false → count_by is_some board.legacy ≡ n → n < LEGACIES → first_fault board a ≡ None
no_fault board a n s t many f = chosen_by board a false s t (lt-leb LEGACIES (count_by is_some board.legacy) (omega (arith, many, f)))

-- ---- and those before one more identity is

abbrev chosen_declare : Bool → Bool → Bool → Bool → Option DeclareFault
chosen_declare static taken twice full =
    if not static then Some DeclareFault.LegacyAddress else (if taken then Some DeclareFault.LegacyTwice else (if twice then Some DeclareFault.IdentityTwice else (if full then Some DeclareFault.TooManyDeclared else None)))

chosen_declare_by : (board : Board) (a : ℕ) (i : Identity) (twice full : Bool) → is_static a ≡ true → is_taken board a ≡ false → is_some (fixed_of board.declared i) ≡ twice
    → nat_le DECLARED (count_by is_some board.declared) ≡ full → first_declare_fault board a i ≡ chosen_declare true false twice full
chosen_declare_by board a i twice full s t w f = λ k. chosen_declare (s k) (t k) (w k) (f k)

pub declare_full : (board : Board) (a n : ℕ) (i : Identity) → is_static a ≡ true → is_taken board a ≡ false → is_some (fixed_of board.declared i) ≡ false → count_by is_some board.declared ≡ n → n ≡ DECLARED
    → first_declare_fault board a i ≡ Some DeclareFault.TooManyDeclared
declare_full board a n i s t w many f = chosen_declare_by board a i false true s t w (le-leb DECLARED (count_by is_some board.declared) (omega (arith, many, f)))

pub no_declare_fault : (board : Board) (a n : ℕ) (i : Identity) → is_static a ≡ true → is_taken board a ≡ false → is_some (fixed_of board.declared i) ≡ false → count_by is_some board.declared ≡ n → n < DECLARED
    → first_declare_fault board a i ≡ None
no_declare_fault board a n i s t w many f = chosen_declare_by board a i false false s t w (lt-leb DECLARED (count_by is_some board.declared) (omega (arith, many, f)))
