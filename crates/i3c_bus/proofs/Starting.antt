-- The start: an address is free for the main controller, and what is made is the start's state.
use Rattle.std.proofs.Common.{◌≡◌, ℕ, zero, suc, ◌+◌, ◌≤◌, ◌<◌, false, List, [], ◌∷◌, get_or, set, map, cond, count_by, Option, Some, None, option_map, is_some, refl, sym, ap, ◌∙◌, arith}
use Rattle.std.proofs.lemmas.List.Sums.{sum_by-cons}
use Rattle.std.proofs.lemmas.Option.{none-some}
use Rattle.i3c_base.specs.declared.device.LegacyTarget.{LegacyTarget}
use Rattle.i3c_base.specs.declared.device.Setup.{Setup}
use Rattle.i3c_base.specs.declared.identity.Identity.{Identity}
use Rattle.i3c_base.specs.declared.identity.Lvr.{Lvr}
use Rattle.i3c_base.specs.declared.requests.Record.{Record}
use Rattle.i3c_base.specs.Covered.{Table}
use Rattle.i3c_base.specs.State.{Board, Device, Entry, IsBoard, IsFree, IsPickIn, IsPickableIn, IsStart, attached, entry_of, fixed_of, legacy_target_of, legacy_targets_of, no_devices, no_entries, no_raises}
use Rattle.i3c_base.specs.Round.{winner}
use Rattle.i3c_base.proofs.Lookups.{no_entries_at}
use Rattle.i3c_bus.specs.Parts.{state_of}

count_cons : {A : Type 0} (x : Option A) (xs : List (Option A)) → count_by is_some (x ∷ xs) ≡ cond (is_some x) 1 0 + count_by is_some xs
count_cons x xs = sum_by-cons (λ o. cond (is_some o) 1 0) x xs

-- a place that isn't empty counts
there : {A : Type 0} (o : Option A) → (o ≡ None → ⊥) → 1 ≤ cond {A = ℕ} (is_some o) 1 0
there None h = absurd (h refl)
there (Some v) h = omega arith

either : {A B : Type 0} (x : Option A) (y : Option B) → (x ≡ None → y ≡ None → ⊥) → 1 ≤ cond {A = ℕ} (is_some x) 1 0 + cond {A = ℕ} (is_some y) 1 0
either None None h = absurd (h refl refl)
either None (Some w) h = omega arith
either (Some v) None h = omega arith
either (Some v) (Some w) h = omega arith

-- two empty places add nothing to either count
both_counted : {A B : Type 0} (xs : List (Option A)) (ys : List (Option B)) (low n : ℕ) → ((k : ℕ) → low ≤ k → k < low + n → (get_or xs k None ≡ None → get_or ys k None ≡ None → ⊥))
    → n ≤ count_by is_some xs + count_by is_some ys
both_counted xs ys low zero h = omega arith
both_counted [] [] low (suc n) h = absurd (h low (omega arith) (omega arith) refl refl)
both_counted [] (y ∷ ys) zero (suc n) h =
    let rest = both_counted [] ys zero n (λ k l m. h (suc k) (omega arith) (omega arith)) in
    let first : 1 ≤ cond {A = ℕ} (is_some y) 1 0 = there y (λ e. h zero (omega arith) (omega arith) refl e) in
    omega (arith, first, rest, count_cons y ys)
both_counted [] (y ∷ ys) (suc low) (suc n) h =
    let rest = both_counted [] ys low (suc n) (λ k l m. h (suc k) (omega arith) (omega arith)) in
    omega (arith, rest, count_cons y ys)
both_counted (x ∷ xs) [] zero (suc n) h =
    let rest = both_counted xs [] zero n (λ k l m. h (suc k) (omega arith) (omega arith)) in
    let first : 1 ≤ cond {A = ℕ} (is_some x) 1 0 = there x (λ e. h zero (omega arith) (omega arith) e refl) in
    omega (arith, first, rest, count_cons x xs)
both_counted (x ∷ xs) [] (suc low) (suc n) h =
    let rest = both_counted xs [] low (suc n) (λ k l m. h (suc k) (omega arith) (omega arith)) in
    omega (arith, rest, count_cons x xs)
both_counted (x ∷ xs) (y ∷ ys) zero (suc n) h =
    let rest : n ≤ count_by is_some xs + count_by is_some ys = both_counted xs ys zero n (λ k l m. h (suc k) (omega arith) (omega arith)) in
    let first : 1 ≤ cond {A = ℕ} (is_some x) 1 0 + cond {A = ℕ} (is_some y) 1 0 = either x y (h zero (omega arith) (omega arith)) in
    omega (arith, first, rest, count_cons x xs, count_cons y ys)
both_counted (x ∷ xs) (y ∷ ys) (suc low) (suc n) h =
    let rest : suc n ≤ count_by is_some xs + count_by is_some ys = both_counted xs ys low (suc n) (λ k l m. h (suc k) (omega arith) (omega arith)) in
    omega (arith, rest, count_cons x xs, count_cons y ys)

-- with few legacy targets and few declared identities an address is free at the start
pub some_free : (board : Board) → count_by is_some board.legacy ≤ 16 → count_by is_some board.declared ≤ 16 → ((a : ℕ) → IsPickableIn no_entries board.legacy board.declared a → ⊥) → ⊥
some_free board few also none =
    let many : 33 ≤ count_by is_some board.legacy + count_by is_some board.declared = both_counted board.legacy board.declared 8 33
    (λ k l m p q. none k ((l, omega arith, omega arith, omega arith, omega arith, omega arith), no_entries_at k, p, q)) in
    omega arith

-- legacy targets by their LVRs
get_or-map : {A B : Type 0} (f : A → B) (xs : List (Option A)) (k : ℕ) → get_or (map (option_map f) xs) k None ≡ option_map f (get_or xs k None)
get_or-map f [] k = refl
get_or-map f (x ∷ xs) zero = refl
get_or-map f (x ∷ xs) (suc k) = get_or-map f xs k

free_targets : (lvrs : List (Option Lvr)) (a : ℕ) → IsFree lvrs a → IsFree (legacy_targets_of lvrs) a
free_targets lvrs a h = get_or-map legacy_target_of lvrs a ∙ ap (option_map legacy_target_of) h

free_lvrs : (lvrs : List (Option Lvr)) (a : ℕ) → IsFree (legacy_targets_of lvrs) a → IsFree lvrs a
free_lvrs lvrs a h = go (get_or lvrs a None) (sym (get_or-map legacy_target_of lvrs a) ∙ h)
  where
    go : (o : Option Lvr) → option_map legacy_target_of o ≡ None → o ≡ None
    go None e = refl
    go (Some v) e = absurd (none-some (legacy_target_of v) (sym e))

pick_targets : (given : List (Option Entry)) (lvrs : List (Option Lvr)) (declared : List (Option Identity)) (a : ℕ) → IsPickIn given lvrs declared a → IsPickIn given (legacy_targets_of lvrs) declared a
pick_targets given lvrs declared a h = ((h.0.0, h.0.1, free_targets lvrs a h.0.2, h.0.3), λ b l p. h.1 b l (p.0, p.1, free_lvrs lvrs b p.2, p.3))

-- the targets keep their LVRs
pub lvrs_kept : (lvrs : List (Option Lvr)) → map (option_map (λ (t : LegacyTarget). t.lvr)) (legacy_targets_of lvrs) ≡ lvrs
lvrs_kept [] = refl
lvrs_kept (None ∷ lvrs) = ap (λ (rest : List (Option Lvr)). None ∷ rest) (lvrs_kept lvrs)
lvrs_kept (Some v ∷ lvrs) = ap (λ (rest : List (Option Lvr)). Some v ∷ rest) (lvrs_kept lvrs)

-- what is made at the pick is a start
pub start_seen : (main : Setup) (board : Board) (a : ℕ) (fixed : Option ℕ) (empty devices : List (Option Device)) (raised : List ℕ) (active holder : ℕ) (d : Device) (table : Table) (legacy : List (Option LegacyTarget))
    (records : List Record) → IsBoard board
    → IsPickIn no_entries board.legacy board.declared a → empty ≡ no_devices → holder ≡ 0 → fixed ≡ fixed_of board.declared main.identity → d ≡ winner a (attached fixed main) → devices ≡ set empty holder (Some d)
    → raised ≡ no_raises → active ≡ holder
    → table ≡ record { given = set no_entries a (Some (entry_of board.declared main.identity)); legacy = board.legacy; declared = board.declared; listed = false } → legacy ≡ legacy_targets_of board.legacy → records ≡ []
    → IsStart main board (state_of devices raised active table legacy false records)
unfolding no_devices no_raises
start_seen main board a fixed empty devices raised active holder d table legacy records whole pick none first at_fixed is put zeros same at targets unrecorded = (
  a,
  pick_targets no_entries board.legacy board.declared a pick,
  (λ t. state_of (put t) (zeros t) (same t) (at t) (targets t) false (unrecorded t))
      ∙ (λ t. state_of (set (none t) (first t) (Some (is t))) no_raises (first t)
      (record { given = set no_entries a (Some (entry_of board.declared main.identity)); legacy = board.legacy; declared = board.declared; listed = false }) (legacy_targets_of board.legacy) false [])
      ∙ (λ t. state_of (set no_devices 0 (Some (winner a (attached (at_fixed t) main)))) no_raises 0
      (record { given = set no_entries a (Some (entry_of board.declared main.identity)); legacy = board.legacy; declared = board.declared; listed = false }) (legacy_targets_of board.legacy) false []),
  whole,
)
