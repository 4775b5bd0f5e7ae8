-- What has a static address after one more is declared.
use Rattle.std.proofs.Common.{◌≡◌, ◌≢◌, ℕ, Bool, true, false, ◌||◌, length, get_or, set, Option, Some, None, is_some, sym, refl, ap, ◌∙◌, arith, inl, inr}
use Rattle.std.proofs.lemmas.Bool.{cases_eq}
use Rattle.std.proofs.lemmas.List.{get_or-set_other, get_or-set_same}
use Rattle.std.proofs.lemmas.Option.{none-some}
use Rattle.i3c_base.specs.declared.identity.Identity.{Identity}
use Rattle.i3c_base.specs.declared.identity.Lvr.{Lvr}
use Rattle.i3c_base.specs.declared.range.TheConstants.{ADDRESSES}
use Rattle.i3c_base.specs.Sets.{is_in}
use Rattle.i3c_base.specs.State.{Board, IsBoard, declared_in, fixed_of, is_static, no_board, no_lvrs}
use Rattle.i3c_base.proofs.Lookups.{no_identities_at, replicate_at, set_from}
use Rattle.i3c_legacy.specs.Declaring.{is_taken}
use Rattle.i3c_legacy.specs.Rows.{IsSetOf}
use Rattle.i3c_legacy.proofs.FixedLaws.{static_below, undeclared}

or_false : (a b : Bool) → (a || b) ≡ false → (a ≡ false) × (b ≡ false)
or_false false b h = (refl, h)
or_false true b h = cc

or_true : (a b : Bool) → a ≡ true → (a || b) ≡ true
or_true true b h = refl
or_true false b h = cc

or_true-right : (a b : Bool) → b ≡ true → (a || b) ≡ true
or_true-right true b h = refl
or_true-right false b h = h

not_some : {A : Type 0} (o : Option A) → is_some o ≡ false → o ≡ None
not_some None h = refl
not_some (Some x) h = cc

-- no target and no identity at an address that isn't taken
pub no_target : (board : Board) (a : ℕ) → is_taken board a ≡ false → is_some (get_or board.legacy a None) ≡ false
no_target board a free = (or_false _ _ free).0

pub no_identity : (board : Board) (a : ℕ) → is_taken board a ≡ false → is_some (declared_in board.declared a) ≡ false
no_identity board a free = (or_false _ _ free).1

-- nothing is declared
no_lvrs_at : (a : ℕ) → ◌≡◌ {A = Option Lvr} (get_or no_lvrs a None) None
unfolding no_lvrs
no_lvrs_at a = elim (replicate_at ADDRESSES a None None) [ inl e ↦ e | inr e ↦ e ]

pub board_none : IsBoard no_board
board_none = record {
  static = λ a i h. absurd (none-some i (sym (no_identities_at a) ∙ h));
  apart = λ a i h. absurd (none-some i (sym (no_identities_at a) ∙ h));
  once = λ a b i h k. absurd (none-some i (sym (no_identities_at a) ∙ h));
}

pub set_none : (none : ℕ) → ((a : ℕ) → is_in none a ≡ false) → IsSetOf no_board none
set_none none nothing a = nothing a ∙ (λ k. is_some (sym (no_lvrs_at a) k) || is_some (sym (no_identities_at a) k))

-- one more target
abbrev pub with_target : Board → ℕ → Lvr → Board
with_target board a lvr = record board { legacy = set board.legacy a (Some lvr) }

pub board_target : (board : Board) (a : ℕ) (lvr : Lvr) → IsBoard board → is_taken board a ≡ false → IsBoard (with_target board a lvr)
board_target board a lvr h free = record {
  static = h.static;
  apart = λ b i at.
      get_or-set_other board.legacy a b (Some lvr) None (λ e. absurd (none-some i (sym (not_some (declared_in board.declared a) (no_identity board a free)) ∙ (ap (declared_in board.declared) (sym e) ∙ at))))
      ∙ h.apart b i at;
  once = h.once;
}

pub set_target : (board : Board) (a : ℕ) (lvr : Lvr) (had more : ℕ) → length board.legacy ≡ ADDRESSES → is_static a ≡ true → IsSetOf board had → is_in more a ≡ true → ((b : ℕ) → b ≢ a → is_in more b ≡ is_in had b)
    → IsSetOf (with_target board a lvr) more
set_target board a lvr had more long s was has others b = elim (cases_eq b a) [
  | inl e ↦ rw e (has ∙ sym (or_true _ _ (ap is_some (get_or-set_same board.legacy a (Some lvr) None (omega (arith, static_below a s, long))))))
  | inr other ↦ others b other ∙ (was b ∙ ap (λ o. is_some o || is_some (declared_in board.declared b)) (sym (get_or-set_other board.legacy a b (Some lvr) None other)))
]

-- one more identity
abbrev pub with_identity : Board → ℕ → Identity → Board
with_identity board a i = record board { declared = set board.declared a (Some i) }

pub board_identity : (board : Board) (a : ℕ) (i : Identity) → IsBoard board → is_static a ≡ true → is_taken board a ≡ false → is_some (fixed_of board.declared i) ≡ false → IsBoard (with_identity board a i)
board_identity board a i h s free new = record {
  static = λ b j at. elim (set_from board.declared a b (Some i) j at) [ inl e ↦ ap is_static e.0 ∙ s | inr had ↦ h.static b j had ];
  apart = λ b j at. elim (set_from board.declared a b (Some i) j at) [
    | inl e ↦ ap (λ c. get_or board.legacy c None) e.0 ∙ not_some (get_or board.legacy a None) (no_target board a free)
    | inr had ↦ h.apart b j had
  ];
  once = λ b c j at there. elim (set_from board.declared a b (Some i) j at) [
    | inl e ↦ elim (set_from board.declared a c (Some i) j there) [
      | inl f ↦ e.0 ∙ sym f.0
      | inr had ↦ absurd (undeclared board i c h (not_some (fixed_of board.declared i) new) (had ∙ sym e.1))
    ]
    | inr had ↦ elim (set_from board.declared a c (Some i) j there) [
      | inl f ↦ absurd (undeclared board i b h (not_some (fixed_of board.declared i) new) (had ∙ sym f.1))
      | inr has ↦ h.once b c j had has
    ]
  ];
}

pub set_identity : (board : Board) (a : ℕ) (i : Identity) (had more : ℕ) → length board.declared ≡ ADDRESSES → is_static a ≡ true → IsSetOf board had → is_in more a ≡ true → ((b : ℕ) → b ≢ a → is_in more b ≡ is_in had b)
    → IsSetOf (with_identity board a i) more
set_identity board a i had more long s was has others b = elim (cases_eq b a) [
  | inl e ↦ rw e (has ∙ sym (or_true-right (is_some (get_or board.legacy a None)) _ (ap is_some (get_or-set_same board.declared a (Some i) None (omega (arith, static_below a s, long))))))
  | inr other ↦ others b other ∙ (was b ∙ ap (λ o. is_some (get_or board.legacy b None) || is_some o) (sym (get_or-set_other board.declared a b (Some i) None other)))
]
