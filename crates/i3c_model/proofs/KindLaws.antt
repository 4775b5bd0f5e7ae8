-- The meaning of the bits of a set of kinds.
use Rattle.std.proofs.Common.{◌≡◌, ℕ, ◌*◌, ◌/◌, ◌%◌, ◌==◌, ap, ◌∙◌, arith}
use Rattle.std.proofs.lemmas.Bool.Decides.{nat_tests}
use Rattle.std.proofs.lemmas.Nat.Bits.{and_pow}
use Rattle.std.specs.Int.{bit_at}
use lib.Bits.{bit_and}

twice : (b : ℕ) → (b * 2 == 2) ≡ (b == 1)
twice b = grind (arith, nat_tests)

eightfold : (b : ℕ) → (b * 8 == 8) ≡ (b == 1)
eightfold b = grind (arith, nat_tests)

-- a test of the second bit and of the fourth
pub has_second : (n : ℕ) → (bit_and n 2 == 2) ≡ (n / 2 % 2 == 1)
has_second n = ap (λ x. x == 2) (and_pow n 1) ∙ twice (bit_at n 1)

pub has_fourth : (n : ℕ) → (bit_and n 8 == 8) ≡ (n / 8 % 2 == 1)
has_fourth n = ap (λ x. x == 8) (and_pow n 3) ∙ eightfold (bit_at n 3)
