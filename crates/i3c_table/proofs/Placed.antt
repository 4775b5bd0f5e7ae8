-- All rows, each at its address.
use Rattle.std.proofs.Common.{◌≡◌, ◌≢◌, ℕ, suc, ◌+◌, ◌<◌, ◌≤◌, true, false, List, [], ◌∷◌, length, get_or, set, map, replicate, count_by, Option, Some, None, is_some, option_map, IfSome, MatchOption, sym, ap, ◌∙◌, inl, inr, arith, subst, zero-add, cond}
use Rattle.std.specs.List.{range_with_len}
use Rattle.std.proofs.lemmas.Bool.{cases_eq, cases_lt, cond-true}
use Rattle.std.proofs.lemmas.List.{ext_get_or, get_or-map, get_or-replicate, get_or_past, get_or-set_other, get_or-set_same, length-map}
use Rattle.std.proofs.lemmas.List.Sums.{sum_by-cons}
use Rattle.i3c_base.specs.State.{Board, Entry, IsFree, IsUsable, entry_in}
use Rattle.i3c_table.specs.declared.row.Row.{Row}
use Rattle.i3c_table.specs.declared.registers.Registers.{Registers}
use Rattle.i3c_table.specs.Rows.{entry_of_row}
use Rattle.i3c_base.specs.Sets.{is_in}
use Rattle.i3c_table.specs.Stored.{IsWhole, stored}
use Rattle.i3c_base.proofs.SetLaws.{is_usable, is_usable-true}
use Rattle.i3c_table.proofs.StoredLaws.{IsSmall, entry_stored, length-stored, out_of, small_whole, some_or_none}

-- a place holds the row of its address
abbrev pub IsPlaced : List (Option Entry) → ℕ → Option Row → Type 0
IsPlaced given a place = (option_map entry_of_row place ≡ entry_in given a) × IfSome place (λ row. row.address ≡ a)

-- the rows of the addresses that aren't left are in their places
abbrev pub ArePlaced : List (Option Entry) → ℕ → List (Option Row) → Type 0
ArePlaced given left rows = (a : ℕ) → is_in left a ≡ false → IsPlaced given a (get_or rows a None)

-- what is found at an address
pub placed_found : (given : List (Option Entry)) (a : ℕ) (found : Option Row) → MatchOption found (IsFree given a) (λ row. (row.address ≡ a) × (entry_in given a ≡ Some (entry_of_row row))) → IsPlaced given a found
placed_found given a None free = (sym free, tt)
placed_found given a (Some row) h = (sym h.1, h.0)

nowhere : (a : ℕ) → get_or {A = Option Row} (replicate 128 None) a None ≡ None
nowhere a = elim (cases_lt a 128) [ inl l ↦ get_or-replicate 128 a None None l | inr past ↦ get_or_past {X = Option Row} (replicate 128 None) a None past ]

pub placed_none : (held kept : ℕ) (registers : List Registers) (numbers : List ℕ) → IsSmall held → ArePlaced (stored held kept registers numbers) held (replicate 128 None)
placed_none held kept registers numbers fits a out =
    rw (nowhere a) (sym (entry_stored held kept registers numbers a fits ∙ out_of held kept registers numbers a out), tt)

pub placed_more : (given : List (Option Entry)) (left left' k : ℕ) (rows : List (Option Row)) (found : Option Row) → ArePlaced given left rows → k < length rows → ((a : ℕ) → a ≢ k → is_in left' a ≡ is_in left a)
    → MatchOption found (IsFree given k) (λ row. (row.address ≡ k) × (entry_in given k ≡ Some (entry_of_row row))) → ArePlaced given left' (set rows k found)
placed_more given left left' k rows found so_far l same h a out = elim (cases_eq a k) [
  | inl e ↦ rw e (rw (get_or-set_same rows k found None l) (placed_found given k found h))
  | inr other ↦ rw (get_or-set_other rows k a found None other) (so_far a (sym (same a other) ∙ out))
]

-- nothing is left
pub placed_all : (given : List (Option Entry)) (left : ℕ) (rows : List (Option Row)) → ArePlaced given left rows → ((a : ℕ) → is_in left a ≡ false) → length rows ≡ length given → map (option_map entry_of_row) rows ≡ given
placed_all given left rows h none long = ext_get_or None (map (option_map entry_of_row) rows) given (length-map rows (option_map entry_of_row) ∙ long) (λ a below.
    get_or-map (option_map entry_of_row) rows a None None (omega (arith, below, length-map rows (option_map entry_of_row))) ∙ (h a (none a)).0)

-- ---- what a table keeps of all its entries

usable_if : (held kept : ℕ) (registers : List Registers) (numbers : List ℕ) (board : Board) → IsWhole held kept board → (P : ℕ → Type 0) → ((a : ℕ) → is_in held a ≡ true → P a) → (a : ℕ) → IfSome (entry_in (stored held kept registers numbers) a) (λ _. P a)
usable_if held kept registers numbers board h P each a = elim (some_or_none (is_in held a)) [
  | inl has ↦ any (entry_in (stored held kept registers numbers) a) (each a has)
  | inr out ↦ rw (entry_stored held kept registers numbers a (small_whole held kept board h) ∙ out_of held kept registers numbers a out) tt
]
  where
    any : (o : Option Entry) → P a → IfSome o (λ _. P a)
    any None p = tt
    any (Some e) p = p

pub each_usable : (held kept : ℕ) (registers : List Registers) (numbers : List ℕ) (board : Board) → IsWhole held kept board → (a : ℕ) → IfSome (entry_in (stored held kept registers numbers) a) (λ _. IsUsable a)
each_usable held kept registers numbers board h = usable_if held kept registers numbers board h IsUsable h.usable

pub each_apart : (held kept : ℕ) (registers : List Registers) (numbers : List ℕ) (board : Board) → IsWhole held kept board → (a : ℕ) → IfSome (entry_in (stored held kept registers numbers) a) (λ _. IsFree board.legacy a)
each_apart held kept registers numbers board h = usable_if held kept registers numbers board h (IsFree board.legacy) h.apart

pub each_undeclared : (held kept : ℕ) (registers : List Registers) (numbers : List ℕ) (board : Board) → IsWhole held kept board → (a : ℕ) → IfSome (entry_in (stored held kept registers numbers) a) (λ _. IsFree board.declared a)
each_undeclared held kept registers numbers board h = usable_if held kept registers numbers board h (IsFree board.declared) h.undeclared

-- there are no more of them than usable addresses
few_from : (n : ℕ) (given : List (Option Entry)) → ((k : ℕ) → IfSome (get_or given k None) (λ _. IsUsable (n + k))) → count_by is_some given ≤ count_by is_usable (range_with_len n (length given))
few_from n [] each = omega arith
few_from n (place ∷ given) each = with_place place (each 0) (few_from (n + 1) given (λ k. let same : n + 1 + k ≡ n + suc k = omega arith in rw same (each (suc k))))
  where
    with_place : (o : Option Entry) → IfSome o (λ _. IsUsable (n + 0)) → count_by is_some given ≤ count_by is_usable (range_with_len (n + 1) (length given)) → count_by is_some (o ∷ given) ≤ count_by is_usable (range_with_len n (suc (length given)))
    with_place None h so_far = omega (arith, so_far, sum_by-cons (λ (o : Option Entry). cond (is_some o) 1 0) None given, sum_by-cons (λ k. cond (is_usable k) 1 0) n (range_with_len (n + 1) (length given)))
    with_place (Some e) h so_far =
        let same : n + 0 ≡ n = omega arith in
        let one : ◌≡◌ {A = ℕ} (cond (is_usable n) 1 0) 1 = ap (λ b. cond b 1 0) (is_usable-true n (subst IsUsable same h)) in
        omega (arith, so_far, one, sum_by-cons (λ (o : Option Entry). cond (is_some o) 1 0) (Some e) given, sum_by-cons (λ k. cond (is_usable k) 1 0) n (range_with_len (n + 1) (length given)))

pub few : (held kept : ℕ) (registers : List Registers) (numbers : List ℕ) (board : Board) → IsWhole held kept board → count_by is_some (stored held kept registers numbers) ≤ 108
few held kept registers numbers board h =
    let most = few_from 0 (stored held kept registers numbers) (λ k. rw (zero-add k) (each_usable held kept registers numbers board h k)) in
    subst (λ n. count_by is_some (stored held kept registers numbers) ≤ count_by is_usable (range_with_len 0 n)) (length-stored held kept registers numbers) most
