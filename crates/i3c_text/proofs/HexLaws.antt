-- The numbers that hex digits write.
use Rattle.std.proofs.Common.{◌≡◌, ℕ, zero, suc, ◌+◌, ◌-◌, ◌*◌, ◌^◌, ◌<◌, ◌≤◌, ◌⊎◌, Bool, true, ◌&&◌, T, nat_lt, if◌then◌else◌, eqb, eqb→eq, eq-zero-or-pos, get_or, inl, inr, arith, add-one, lit<, subst, sym}
use Rattle.std.proofs.Math.Nat.{pow-le-pow_right, pow-succ'}
use lib.Ieee.Fits.{and_l, and_r}
use Rattle.std.specs.Char.{digit_value}
use Rattle.i3c_text.specs.Digits.{IsHexDigit}
use Rattle.i3c_text.specs.declared.digits.TheConstants.{WORTHS}

-- what a byte is worth as a hex digit: 16 if it is none
abbrev worth_of : ℕ → ℕ
worth_of byte = if nat_lt byte 48 then 16 else (if nat_lt byte 58 then byte - 48 else (if nat_lt byte 65 then 16 else (if nat_lt byte 71 then byte - 55 else 16)))

abbrev are_worths : ℕ → Bool
are_worths zero = true
are_worths (suc n) = eqb (get_or WORTHS n 0) (worth_of n) && are_worths n

worths_below : (n byte : ℕ) → T (are_worths n) → byte < n → get_or WORTHS byte 0 ≡ worth_of byte
worths_below zero byte t h = absurd (omega arith)
worths_below (suc n) byte t h =
    elim (eq-zero-or-pos (n - byte)) [
      | inl z ↦ let e : byte ≡ n = omega arith in rw e (eqb→eq _ _ (and_l _ (are_worths n) t))
      | inr g ↦ worths_below n byte (and_r _ (are_worths n) t) (omega arith)
    ]

below_or_not : (a b : ℕ) → (a < b) ⊎ (b ≤ a)
below_or_not a b =
    elim (eq-zero-or-pos (b - a)) [
      | inl z ↦ inr (omega (arith, z))
      | inr g ↦ inl (omega (arith, g))
    ]

-- a byte is a hex digit of its worth, or no digit
abbrev pub IsWorth : ℕ → ℕ → Type 0
IsWorth byte worth = (IsHexDigit byte × (worth ≡ digit_value byte) × (worth < 16)) ⊎ ((IsHexDigit byte → ⊥) × (worth ≡ 16))

is_worth : (byte worth : ℕ) → worth ≡ worth_of byte → IsWorth byte worth
is_worth byte worth e =
    elim (below_or_not byte 48) [
      | inl low ↦ inr (λ digit. grind arith, grind arith)
      | inr ge ↦
          elim (below_or_not byte 58) [
            | inl lt ↦ inl (inl (ge, omega (arith, lt)), grind arith, grind arith)
            | inr more ↦
                elim (below_or_not byte 65) [
                  | inl lt ↦ inr (λ digit. grind arith, grind arith)
                  | inr letter ↦
                      elim (below_or_not byte 71) [
                        | inl lt ↦ inl (inr (letter, omega (arith, lt)), grind arith, grind arith)
                        | inr past ↦ inr (λ digit. grind arith, grind arith)
                      ]
                ]
          ]
    ]

pub worth_at : (byte : ℕ) → byte < 256 → IsWorth byte (get_or WORTHS byte 0)
worth_at byte h = is_worth byte (get_or WORTHS byte 0) (worths_below 256 byte tt h)

pub worth_here : (byte at : ℕ) → at ≡ byte → byte < 256 → IsWorth byte (get_or WORTHS at 0)
worth_here byte at e h = subst (λ k. IsWorth byte (get_or WORTHS k 0)) (sym e) (worth_at byte h)

-- none where it is worth 16
pub no_digit : (byte worth : ℕ) → IsWorth byte worth → 16 ≤ worth → IsHexDigit byte → ⊥
no_digit byte worth (inl is) none digit = omega (arith, is.2, none)
no_digit byte worth (inr not_one) none digit = not_one.0 digit

pub a_digit : (byte worth : ℕ) → IsWorth byte worth → worth < 16 → IsHexDigit byte × (worth ≡ digit_value byte) × (worth < 16)
a_digit byte worth (inl is) some = is
a_digit byte worth (inr not_one) some = absurd (omega (arith, not_one.1, some))
