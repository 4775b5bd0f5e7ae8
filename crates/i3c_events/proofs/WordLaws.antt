-- The byte that names kinds.
use Rattle.std.proofs.Common.{◌≡◌, ℕ, zero, suc, ◌<◌, ◌==◌, Bool, true, false, min, sym, refl, ap, ◌∙◌, arith}
use Rattle.std.proofs.lemmas.Nat.Bits.{bit_at-lt, bit_at_and, bit_at_lowest, same_from_bits_below}
use Rattle.std.proofs.lemmas.Nat.{and_le_r}
use Rattle.std.proofs.lemmas.Bool.Decides.{nat_tests}
use Rattle.std.specs.Int.{bit_at}
use lib.Bits.{bit_and}
use Rattle.i3c_base.specs.Numbers.{KindSet, kind_set}
use Rattle.i3c_word.specs.Parity.{bit_of}
use Rattle.i3c_events.specs.Words.{kinds_byte}

-- a set of kinds is named by its byte
pub named_back : (kinds : KindSet) → kind_set (record { 0 = kinds_byte kinds }) ≡ kinds
named_back kinds = go kinds.interrupt kinds.role kinds.join
  where
    go : (i r j : Bool) → kind_set (record { 0 = kinds_byte (record { interrupt = i; role = r; join = j }) }) ≡ record { interrupt = i; role = r; join = j }
    go true true true = refl
    go true true false = refl
    go true false true = refl
    go true false false = refl
    go false true true = refl
    go false true false = refl
    go false false true = refl
    go false false false = refl

-- a bit as a number, of a test of that bit
bit_of_test : (b : ℕ) → b < 2 → bit_of (b == 1) ≡ b
bit_of_test zero l = refl
bit_of_test (suc zero) l = refl
bit_of_test (suc (suc b)) l = absurd (omega (arith, l))

-- the four bits of the byte: the third is 0
abbrev BitsOf : KindSet → Type 0
BitsOf kinds =
    (kinds_byte kinds < 16) × (bit_at (kinds_byte kinds) 0 ≡ bit_of kinds.interrupt) × (bit_at (kinds_byte kinds) 1 ≡ bit_of kinds.role)
    × (bit_at (kinds_byte kinds) 2 ≡ 0) × (bit_at (kinds_byte kinds) 3 ≡ bit_of kinds.join)

bits_of_byte : (kinds : KindSet) → BitsOf kinds
bits_of_byte kinds = go kinds.interrupt kinds.role kinds.join
  where
    go : (i r j : Bool) → BitsOf (record { interrupt = i; role = r; join = j })
    go true true true = (omega arith, refl, refl, refl, refl)
    go true true false = (omega arith, refl, refl, refl, refl)
    go true false true = (omega arith, refl, refl, refl, refl)
    go true false false = (omega arith, refl, refl, refl, refl)
    go false true true = (omega arith, refl, refl, refl, refl)
    go false true false = (omega arith, refl, refl, refl, refl)
    go false false true = (omega arith, refl, refl, refl, refl)
    go false false false = (omega arith, refl, refl, refl, refl)

-- the least of a bit and 1, or 0
min_one : (b : ℕ) → b < 2 → min b 1 ≡ b
min_one b l = grind (arith, nat_tests)

min_zero : (b : ℕ) → min b 0 ≡ 0
min_zero b = grind (arith, nat_tests)

-- the bits of a byte that name kinds
pub masked : (n : ℕ) → bit_and n 11 ≡ kinds_byte (kind_set (record { 0 = n }))
masked n = let low = and_le_r n 11 in same_from_bits_below 4 (bit_and n 11) byte (omega (arith, low)) bits.0 each
  where
    byte : ℕ
    byte = kinds_byte (kind_set (record { 0 = n }))

    bits : BitsOf (kind_set (record { 0 = n }))
    bits = bits_of_byte (kind_set (record { 0 = n }))

    kept : (i : ℕ) → bit_at 11 i ≡ 1 → bit_at (bit_and n 11) i ≡ bit_of (bit_at n i == 1)
    kept i e = bit_at_and n 11 i ∙ (ap (min (bit_at n i)) e ∙ (min_one (bit_at n i) (bit_at-lt n i) ∙ sym (bit_of_test (bit_at n i) (bit_at-lt n i))))

    each : (i : ℕ) → i < 4 → bit_at (bit_and n 11) i ≡ bit_at byte i
    each zero l = kept 0 refl ∙ (ap (λ b. bit_of (b == 1)) (bit_at_lowest n) ∙ sym bits.1)
    each (suc zero) l = kept 1 refl ∙ sym bits.2
    each (suc (suc zero)) l = bit_at_and n 11 2 ∙ (min_zero (bit_at n 2) ∙ sym bits.3)
    each (suc (suc (suc zero))) l = kept 3 refl ∙ sym bits.4
    each (suc (suc (suc (suc i)))) l = absurd (omega (arith, l))
