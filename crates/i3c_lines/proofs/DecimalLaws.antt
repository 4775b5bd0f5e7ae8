-- Decimal digits, and the numbers that they write.
use Rattle.std.proofs.Common.{◌≢◌, ℕ, suc, ◌^◌, ◌<◌, List, [], ◌∷◌, get_or, All, Result, Ok, Err, arith, refl, subst}
use Rattle.std.proofs.lemmas.Fmt.{IsAscii-from_digits}
use Rattle.std.proofs.lemmas.Str.{IsUtf8-from_ascii}
use Rattle.std.proofs.lemmas.Str.Parse.{without_leading_plus_none}
use Rattle.std.specs.Char.{digit_value}
use Rattle.std.specs.Option.{IsSome}
use Rattle.std.specs.Result.{OkIff, result_ok}
use Rattle.std.specs.Str.{IsUtf8}
use Rattle.std.specs.Str.Parse.{AllDigits, ParsesUnsigned, IsNumeral, digits_value}
use Rattle.i3c_lines.specs.Tokens.{IsDecimal, IsDecimalDigit}

decimal_value : (byte : ℕ) → IsDecimalDigit byte → digit_value byte < 10
decimal_value byte h = grind arith

all_decimal : (token : List ℕ) → All IsDecimalDigit token → AllDigits 10 token
all_decimal [] h = tt
all_decimal (byte ∷ token) h = (decimal_value byte (h 0 0 (omega arith)), all_decimal token (λ k d l. h (suc k) d (omega arith)))

-- decimal digits are text
pub decimal_is_text : (token : List ℕ) → IsDecimal token → IsUtf8 token
decimal_is_text token h = IsUtf8-from_ascii token (IsAscii-from_digits token (all_decimal token h.1))

no_plus : (token : List ℕ) → All IsDecimalDigit token → get_or token 0 0 ≢ 43
no_plus [] h e = omega arith
no_plus (byte ∷ token) h e = let digit = h 0 0 (omega arith) in absurd (grind arith)

-- the number of some digits, if it is in 64 bits
abbrev pub Writes : {E : Type 0} → List ℕ → Result ℕ E → Type 0
Writes token r = OkIff r (IsNumeral 10 token × (digits_value 10 token < 2 ^ 64)) (digits_value 10 token)

pub decimal_parses : {E : Type 0} → (token : List ℕ) (r : Result ℕ E) → IsDecimal token → ParsesUnsigned 64 10 token r → Writes token r
decimal_parses token r h parses = subst (λ bs. OkIff r (IsNumeral 10 bs × (digits_value 10 bs < 2 ^ 64)) (digits_value 10 bs)) (without_leading_plus_none token (no_plus token h.1)) parses

pub some_is_short : {E : Type 0} → (token : List ℕ) (r : Result ℕ E) → Writes token r → IsSome (result_ok r) → digits_value 10 token < 2 ^ 64
some_is_short token (Ok n) writes some = writes.0.1
some_is_short token (Err e) writes some = absurd cc

pub short_is_some : {E : Type 0} → (token : List ℕ) (r : Result ℕ E) → Writes token r → IsDecimal token → digits_value 10 token < 2 ^ 64 → IsSome (result_ok r)
short_is_some token (Ok n) writes h short = refl
short_is_some token (Err e) writes h short = absurd (writes ((h.0, all_decimal token h.1), short))
