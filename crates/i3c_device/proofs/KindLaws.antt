-- Sets of kinds and the bits that stand for them.
use Rattle.std.proofs.Common.{◌≡◌, ℕ, ◌-◌, ◌*◌, ◌/◌, ◌%◌, ◌^◌, ◌<◌, not, ◌&&◌, ◌||◌, ◌==◌, min, max, ap, ◌∙◌, arith}
use Rattle.std.proofs.lemmas.Bool.Decides.{nat_tests}
use Rattle.std.proofs.lemmas.Nat.Bits.{and_pow, bit_at-lt, bit_at_and, bit_at_not, bit_at_or}
use Rattle.std.specs.Int.{Width, bit_at}
use mir.Val.{bits}
use Rattle.std.specs.Int.RustNames.{bit_or}
use lib.Bits.{bit_and}

pub has_second : (n : ℕ) → (bit_and n 2 == 2) ≡ (n / 2 % 2 == 1)
has_second n = ap (λ x. x == 2) (and_pow n 1) ∙ twice (bit_at n 1)
  where
    twice : (b : ℕ) → (b * 2 == 2) ≡ (b == 1)
    twice b = grind (arith, nat_tests)

pub has_fourth : (n : ℕ) → (bit_and n 8 == 8) ≡ (n / 8 % 2 == 1)
has_fourth n = ap (λ x. x == 8) (and_pow n 3) ∙ eightfold (bit_at n 3)
  where
    eightfold : (b : ℕ) → (b * 8 == 8) ≡ (b == 1)
    eightfold b = grind (arith, nat_tests)

-- one bit of a union and of a difference
either_one : (x y : ℕ) → x < 2 → y < 2 → (max x y == 1) ≡ ((x == 1) || (y == 1))
either_one x y l m = grind (arith, nat_tests)

one_alone : (x y : ℕ) → x < 2 → y < 2 → (min x (1 - y) == 1) ≡ ((x == 1) && not (y == 1))
one_alone x y l m = grind (arith, nat_tests)

pub or_bit : (a b i : ℕ) → (bit_at (bit_or a b) i == 1) ≡ ((bit_at a i == 1) || (bit_at b i == 1))
or_bit a b i = ap (λ x. x == 1) (bit_at_or a b i) ∙ either_one (bit_at a i) (bit_at b i) (bit_at-lt a i) (bit_at-lt b i)

both_one : (x y : ℕ) → x < 2 → y < 2 → (min x y == 1) ≡ ((x == 1) && (y == 1))
both_one x y l m = grind (arith, nat_tests)

pub and_bit : (a b i : ℕ) → (bit_at (bit_and a b) i == 1) ≡ ((bit_at a i == 1) && (bit_at b i == 1))
and_bit a b i = ap (λ x. x == 1) (bit_at_and a b i) ∙ both_one (bit_at a i) (bit_at b i) (bit_at-lt a i) (bit_at-lt b i)

pub without_bit : (w : Width) (a b i : ℕ) → b < 2 ^ bits w → i < bits w → (bit_at (bit_and a (2 ^ bits w - 1 - b)) i == 1) ≡ ((bit_at a i == 1) && not (bit_at b i == 1))
without_bit w a b i l m =
    ap (λ x. x == 1) (bit_at_and a (2 ^ bits w - 1 - b) i ∙ ap (min (bit_at a i)) (bit_at_not w b i l m)) ∙ one_alone (bit_at a i) (bit_at b i) (bit_at-lt a i) (bit_at-lt b i)
