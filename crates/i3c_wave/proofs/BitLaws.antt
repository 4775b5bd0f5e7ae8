-- The bits of a number, one by one, and the number that they make again.
use Rattle.std.proofs.Common.{◌≡◌, ◌∙◌, ℕ, zero, suc, ◌+◌, ◌*◌, ◌/◌, ◌%◌, ◌<◌, ◌≤◌, ◌^◌, ◌==◌, Bool, true, false, not, [], ◌∷◌, ◌++◌, arith, ap, sym}
use Rattle.std.proofs.Math.Nat.{div-div-eq-div-mul, div-le_self, div-eq_of_lt, pow-suc, pow-succ'}
use Rattle.std.proofs.lemmas.Bool.Decides.{nat_tests}
use Rattle.std.specs.Int.{bit_at}
use Rattle.i3c_word.specs.Parity.{bit_of}
use Rattle.i3c_wave.specs.Levels.{bits}
use Rattle.i3c_wave.specs.Reading.{shifted}

-- a number without its last k bits, and without one more
pub halved : (n k : ℕ) → n / 2 ^ suc k ≡ n / 2 ^ k / 2
halved n k = ap (λ m. n / m) (pow-suc 2 k) ∙ sym (div-div-eq-div-mul n (2 ^ k) 2)

pub halved_first : (n k : ℕ) → n / 2 ^ suc k ≡ n / 2 / 2 ^ k
halved_first n k = ap (λ m. n / m) (pow-succ' 2 k) ∙ sym (div-div-eq-div-mul n 2 (2 ^ k))

-- a number of its half and its last bit
whole_of : (q : ℕ) → q < 18446744073709551616 → shifted (q / 2) (q % 2 == 1) ≡ q
whole_of q small = grind (arith, nat_tests)

-- one bit more of a number
pub one_bit : (n k : ℕ) → n < 18446744073709551616 → shifted (n / 2 ^ suc k) (bit_at n k == 1) ≡ n / 2 ^ k
one_bit n k small =
    let half : n / 2 ^ suc k ≡ n / 2 ^ k / 2 = halved n k in
    let less : n / 2 ^ k ≤ n = div-le_self n (2 ^ k) in
    ap (λ m. shifted m (bit_at n k == 1)) half ∙ whole_of (n / 2 ^ k) (omega (arith, less, small))

-- none of its bits
pub no_bits : (n k : ℕ) → n < 2 ^ k → 0 ≡ n / 2 ^ k
no_bits n k small = sym (div-eq_of_lt small)

-- the last bit of a number that is twice another and a bit
pub last_is : (n : ℕ) (b : Bool) → ((2 * n + bit_of b) % 2 == 1) ≡ b
last_is n true = let odd : (2 * n + 1) % 2 ≡ 1 = omega arith in rw odd
last_is n false = let even : (2 * n + 0) % 2 ≡ 0 = omega arith in rw even

pub half_is : (n : ℕ) (b : Bool) → (2 * n + bit_of b) / 2 ≡ n
half_is n true = omega arith
half_is n false = omega arith

-- one more bit at the end
pub bits_snoc : (k n : ℕ) (b : Bool) → bits (suc k) (2 * n + bit_of b) ≡ bits k n ++ b ∷ []
unfolding bits
bits_snoc zero n b =
    let one : (2 * n + bit_of b) / 2 ^ 0 ≡ 2 * n + bit_of b = omega arith in
    ap (λ m. (m % 2 == 1) ∷ []) one ∙ ap (λ bit. bit ∷ []) (last_is n b)
bits_snoc (suc k) n b =
    let same : (2 * n + bit_of b) / 2 ^ suc k ≡ n / 2 ^ k = halved_first (2 * n + bit_of b) k ∙ ap (λ m. m / 2 ^ k) (half_is n b) in
    ap (λ m. (m % 2 == 1) ∷ bits (suc k) (2 * n + bit_of b)) same ∙ ap (λ more. (bit_at n k == 1) ∷ more) (bits_snoc k n b)

pub not_last_is : (n : ℕ) (b : Bool) → ((2 * n + bit_of (not b)) % 2 == 0) ≡ b
not_last_is n true = let even : (2 * n + 0) % 2 ≡ 0 = omega arith in rw even
not_last_is n false = let odd : (2 * n + 1) % 2 ≡ 1 = omega arith in rw odd

pub bit_small : (b : Bool) → bit_of b < 2
bit_small true = omega arith
bit_small false = omega arith
