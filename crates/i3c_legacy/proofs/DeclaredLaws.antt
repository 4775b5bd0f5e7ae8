-- Declared targets and identities after one more.
use Rattle.std.proofs.Common.{length-append, ◌≡◌, ◌≢◌, ℕ, zero, suc, ◌<◌, Bool, true, false, List, [], ◌∷◌, ◌++◌, length, get_or, Some, None, is_some, IsTrue, sym, refl, ap, ◌∙◌, arith, subst}
use Rattle.std.specs.List.{All, HoldsAt}
use Rattle.std.proofs.lemmas.List.{get_or_default}
use Rattle.std.proofs.lemmas.Option.{none-some}
use Rattle.i3c_base.specs.declared.identity.Identity.{Identity}
use Rattle.i3c_base.specs.Sets.{is_in}
use Rattle.i3c_base.specs.State.{IsBoard, IsFree, fixed_of, is_static, no_board}
use Rattle.i3c_legacy.specs.declared.legacies.Declared.{Declared}
use Rattle.i3c_legacy.specs.declared.legacies.DeclaredIdentity.{DeclaredIdentity}
use Rattle.i3c_legacy.specs.declared.legacies.TheConstants.{DECLARED, LEGACIES}
use Rattle.i3c_legacy.specs.Boards.{AreDeclared, board_of}
use Rattle.i3c_legacy.specs.Declaring.{is_taken}
use Rattle.i3c_legacy.specs.Rows.{IsSetOf, row_at}
use Rattle.i3c_base.proofs.Lookups.{option_map_from}
use Rattle.i3c_legacy.proofs.RowLaws.{no_rows, places_at, row_from}
use Rattle.i3c_legacy.proofs.BoardLaws.{board_identity, board_none, board_target, no_identity, no_target, set_identity, set_none, set_target, with_identity, with_target}
use Rattle.i3c_legacy.proofs.FixedLaws.{fixed_found, fixed_missing}
use Rattle.i3c_legacy.proofs.LegacyLaws.{address_of, home_of, found, identities_none, identities_of, long, lvrs_of, missing, own_more, static_more, view_more, view_none}

-- nothing is declared
pub board_of_none : (targets : List Declared) (identities : List DeclaredIdentity) → targets ≡ [] → identities ≡ [] → board_of targets identities ≡ no_board
board_of_none targets identities t i = λ k. record { legacy = view_none targets t k; declared = identities_none identities i k }

pub declared_none : (targets : List Declared) (identities : List DeclaredIdentity) (none : ℕ) → targets ≡ [] → identities ≡ [] → ((a : ℕ) → is_in none a ≡ false) → AreDeclared targets identities none
declared_none targets identities none t i nothing = record {
  few_targets = rw t (omega arith);
  few_identities = rw i (omega arith);
  targets_apart = rw t (no_rows address_of);
  identities_apart = rw i (no_rows home_of);
  static = rw t (λ k d l. absurd (omega arith));
  board = subst IsBoard (sym (board_of_none targets identities t i)) board_none;
  set = subst (λ b. IsSetOf b none) (sym (board_of_none targets identities t i)) (set_none none nothing);
}

is_true : {b : Bool} → b ≡ true → IsTrue b
is_true e = rw e refl

module _ (targets : List Declared) (identities : List DeclaredIdentity) (had more : ℕ) (h : AreDeclared targets identities had) where
  -- one more target
  pub board_of_target : (d : Declared) → is_static d.address ≡ true → is_taken (board_of targets identities) d.address ≡ false → board_of (targets ++ d ∷ []) identities ≡ with_target (board_of targets identities) d.address d.lvr
  board_of_target d s free =
      ap (λ legacy. record { legacy = legacy; declared = identities_of identities })
      (view_more address_of (λ r. r.lvr) targets (lvrs_of targets) d h.targets_apart refl s (no_target (board_of targets identities) d.address free))

  pub declared_target : (d : Declared) → is_static d.address ≡ true → is_taken (board_of targets identities) d.address ≡ false → length targets < LEGACIES → is_in more d.address ≡ true → ((a : ℕ) → a ≢ d.address → is_in more a ≡ is_in had a)
      → AreDeclared (targets ++ d ∷ []) identities more
  declared_target d s free room has others =
      let board = board_of targets identities in
      record {
        few_targets = omega (arith, room, length-append targets (d ∷ []));
        few_identities = h.few_identities;
        targets_apart = own_more address_of (λ r. r.lvr) targets (lvrs_of targets) d h.targets_apart refl s (no_target board d.address free);
        identities_apart = h.identities_apart;
        static = static_more targets d h.static s;
        board = subst IsBoard (sym (board_of_target d s free)) (board_target board d.address d.lvr h.board free);
        set = subst (λ b. IsSetOf b more) (sym (board_of_target d s free)) (set_target board d.address d.lvr had more (long address_of (λ r. r.lvr) targets (lvrs_of targets) refl) s h.set has others);
      }

  -- one more identity
  pub board_of_identity : (d : DeclaredIdentity) → is_static d.address ≡ true → is_taken (board_of targets identities) d.address ≡ false → board_of targets (identities ++ d ∷ []) ≡ with_identity (board_of targets identities) d.address d.identity
  board_of_identity d s free =
      ap (λ declared. record { legacy = lvrs_of targets; declared = declared })
      (view_more home_of (λ r. r.identity) identities (identities_of identities) d h.identities_apart refl s (no_identity (board_of targets identities) d.address free))

  pub declared_identity : (d : DeclaredIdentity) → is_static d.address ≡ true → is_taken (board_of targets identities) d.address ≡ false → is_some (fixed_of (identities_of identities) d.identity) ≡ false → length identities < DECLARED → is_in more d.address ≡ true
      → ((a : ℕ) → a ≢ d.address → is_in more a ≡ is_in had a) → AreDeclared targets (identities ++ d ∷ []) more
  declared_identity d s free new room has others =
      let board = board_of targets identities in
      record {
        few_targets = h.few_targets;
        few_identities = omega (arith, room, length-append identities (d ∷ []));
        targets_apart = h.targets_apart;
        identities_apart = own_more home_of (λ r. r.identity) identities (identities_of identities) d h.identities_apart refl s (no_identity board d.address free);
        static = h.static;
        board = subst IsBoard (sym (board_of_identity d s free)) (board_identity board d.address d.identity h.board s free new);
        set = subst (λ b. IsSetOf b more) (sym (board_of_identity d s free)) (set_identity board d.address d.identity had more (long home_of (λ r. r.identity) identities (identities_of identities) refl) s h.set has others);
      }

  -- the identity of a row has its address
  pub row_fixed : (i : ℕ) (identity : Identity) (d : DeclaredIdentity) → i < length identities → HoldsAt (λ r. r.identity ≡ identity) identities i → fixed_of (identities_of identities) identity ≡ Some (get_or identities i d).address
  row_fixed i identity d l same = fixed_found (board_of targets identities) identity (get_or identities i d).address h.board (
      sym (found home_of (λ r. r.identity) identities (identities_of identities) i (get_or identities i d).address d h.identities_apart refl l (λ e. ap home_of (get_or_default identities i e d l)))
      ∙ ap Some (same d))

  pub row_static : (i : ℕ) (d : DeclaredIdentity) → i < length identities → IsTrue (is_static (get_or identities i d).address)
  row_static i d l = is_true (h.board.static (get_or identities i d).address (get_or identities i d).identity
      (sym (found home_of (λ r. r.identity) identities (identities_of identities) i (get_or identities i d).address d h.identities_apart refl l (λ e. ap home_of (get_or_default identities i e d l)))))

  -- an identity without a row has none
  pub no_row_fixed : (identity : Identity) → All (λ r. r.identity ≢ identity) identities → fixed_of (identities_of identities) identity ≡ None
  no_row_fixed identity none = fixed_missing (identities_of identities) identity (λ a here.
      let at = option_map_from (λ (r : DeclaredIdentity). r.identity) (row_at home_of identities a) identity (sym (places_at home_of (λ r. r.identity) identities a h.identities_apart.in_range) ∙ here) in
      let its = row_from home_of identities a at.0 at.1 in
      none its.1.0 at.0 its.1.1 (ap (λ (r : DeclaredIdentity). r.identity) its.1.2 ∙ at.2))

  -- without rows nothing is declared
  pub none_free : length identities ≡ 0 → (a : ℕ) → IsFree (identities_of identities) a
  none_free empty a = sym (missing home_of (λ r. r.identity) identities (identities_of identities) a h.identities_apart refl (λ k d l. absurd (omega (arith, l, empty))))

  pub free_none : ((a : ℕ) → IsFree (identities_of identities) a) → length identities ≡ 0
  free_none free = no_rows_left (length identities) refl
    where
      no_rows_left : (n : ℕ) → length identities ≡ n → length identities ≡ 0
      no_rows_left zero e = e
      no_rows_left (suc n) e =
          let d : DeclaredIdentity = record { address = 0; identity = record { pid = 0; bcr = record { 0 = 0 }; dcr = record { 0 = 0 } } } in
          let l : 0 < length identities = omega (arith, e) in
          let first = found home_of (λ r. r.identity) identities (identities_of identities) 0 (get_or identities 0 d).address d h.identities_apart refl l (λ x. ap home_of (get_or_default identities 0 x d l)) in
          absurd (none-some (get_or identities 0 d).identity (sym (free (get_or identities 0 d).address) ∙ sym first))
