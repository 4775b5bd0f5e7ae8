-- Legacy targets with their registers, by address: the target that is found, and the effect of a write.
use Rattle.std.proofs.Common.{◌≡◌, ◌≢◌, ℕ, ◌<◌, List, [], ◌∷◌, length, map, get_or, set, Option, Some, None, option_map, nat_eq, sym, refl, ap, ◌∙◌, subst, arith}
use Rattle.std.specs.List.{All, HoldsAt, IsDistinct, refill}
use Rattle.std.proofs.lemmas.Grind.{common_steps}
use Rattle.std.proofs.lemmas.List.{set-get_or}
use Rattle.std.proofs.lemmas.List.Elements.{All-map, All-set}
use Rattle.i3c_base.specs.declared.range.TheConstants.{ADDRESSES}
use Rattle.i3c_base.specs.declared.device.LegacyTarget.{LegacyTarget}
use Rattle.i3c_base.specs.Frames.{legacy_written, overwritten}
use Rattle.i3c_legacy.specs.declared.legacies.Declared.{Declared}
use Rattle.i3c_legacy.specs.declared.legacy_targets.Placed.{Placed}
use Rattle.i3c_legacy.specs.Rows.{places, row_at, HasOwnAddresses}
use Rattle.i3c_legacy.proofs.LegacyLaws.{address_of}
use Rattle.i3c_legacy.proofs.RowLaws.{addresses_set, places_at, places_set, row_here, row_none}
use Rattle.i3c_legacy.proofs.TargetLaws.{placed_of}

abbrev pub place_of : Placed → ℕ
place_of p = p.address

abbrev pub targets_of : List Placed → List (Option LegacyTarget)
targets_of rows = places place_of (λ p. p.target) rows

-- placed targets have the addresses that were declared
placed_addresses : (ds : List Declared) → map place_of (map placed_of ds) ≡ map address_of ds
placed_addresses [] = refl
placed_addresses (d ∷ ds) = ap (λ rest. d.address ∷ rest) (placed_addresses ds)

pub own_placed : (ds : List Declared) → HasOwnAddresses address_of ds → HasOwnAddresses place_of (map placed_of ds)
own_placed ds own = record {
  distinct = subst (IsDistinct nat_eq) (sym (placed_addresses ds)) own.distinct;
  in_range = All-map (λ (p : Placed). p.address < ADDRESSES) placed_of ds own.in_range;
}

-- the target at an address
pub target_found : (rows : List Placed) (legacy : List (Option LegacyTarget)) (i a : ℕ) (d : Placed) → HasOwnAddresses place_of rows → targets_of rows ≡ legacy → i < length rows → HoldsAt (λ r. r.address ≡ a) rows i
    → ◌≡◌ {A = Option LegacyTarget} (Some (get_or rows i d).target) (get_or legacy a None)
target_found rows legacy i a d own view l same =
    let at : row_at place_of rows a ≡ Some (get_or rows i d) = ap (row_at place_of rows) (sym (same d)) ∙ row_here place_of rows i d own.distinct l in
    ap (option_map (λ (r : Placed). r.target)) (sym at) ∙ (sym (places_at place_of (λ r. r.target) rows a own.in_range) ∙ ap (λ g. get_or g a None) view)

pub target_missing : (rows : List Placed) (legacy : List (Option LegacyTarget)) (a : ℕ) → HasOwnAddresses place_of rows → targets_of rows ≡ legacy → All (λ r. r.address ≢ a) rows
    → ◌≡◌ {A = Option LegacyTarget} None (get_or legacy a None)
target_missing rows legacy a own view none =
    ap (option_map (λ (r : Placed). r.target)) (sym (row_none place_of rows a none)) ∙ (sym (places_at place_of (λ r. r.target) rows a own.in_range) ∙ ap (λ g. get_or g a None) view)

-- a target with other registers in its place
pub refilled : (rows ws : List Placed) → length ws ≡ length rows → refill (length rows) rows ws ≡ ws
refilled rows ws e = grind (arith, common_steps)

pub own_set : (rows : List Placed) (i : ℕ) (row d : Placed) → HasOwnAddresses place_of rows → i < length rows → (get_or rows i d).address ≡ row.address → HasOwnAddresses place_of (set rows i row)
own_set rows i row d own l same = record {
  distinct = subst (IsDistinct nat_eq) (sym (addresses_set place_of rows i row d same)) own.distinct;
  in_range = All-set (λ (r : Placed). r.address < ADDRESSES) rows i row (subst (λ a. a < ADDRESSES) same (own.in_range i d l)) own.in_range;
}

pub view_set : (rows : List Placed) (legacy : List (Option LegacyTarget)) (i a : ℕ) (row d : Placed) (bytes : List ℕ) → HasOwnAddresses place_of rows → targets_of rows ≡ legacy → i < length rows
    → HoldsAt (λ r. r.address ≡ a) rows i → row.address ≡ (get_or rows i d).address → ◌≡◌ {A = LegacyTarget} row.target (record (get_or rows i d).target { registers = overwritten bytes (get_or rows i d).target.registers })
    → targets_of (set rows i row) ≡ set legacy a (legacy_written bytes (get_or legacy a None))
view_set rows legacy i a row d bytes own view l here same written =
    let small : row.address < ADDRESSES = subst (λ x. x < ADDRESSES) (sym same) (own.in_range i d l) in
    let at : row.address ≡ a = same ∙ here d in
    let after : ◌≡◌ {A = Option LegacyTarget} (Some row.target) (legacy_written bytes (get_or legacy a None)) = ap Some written ∙ ap (legacy_written bytes) (target_found rows legacy i a d own view l here) in
    places_set place_of (λ r. r.target) rows i row d small own.distinct l (sym same)
    ∙ (λ t. set (view t) (at t) (after t))

-- no registers change at an address without a target
pub view_same : (legacy : List (Option LegacyTarget)) (a : ℕ) (bytes : List ℕ) → ◌≡◌ {A = Option LegacyTarget} None (get_or legacy a None) → legacy ≡ set legacy a (legacy_written bytes (get_or legacy a None))
view_same legacy a bytes none = sym (set-get_or legacy a None) ∙ ap (set legacy a) (sym none ∙ ap (legacy_written bytes) none)
