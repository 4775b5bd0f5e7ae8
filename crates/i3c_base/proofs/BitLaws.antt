-- Bits of the AND of two bytes.
use Rattle.std.specs.Int.{bit_at}
use Rattle.std.specs.Int.Bits.{bit_and}
use Rattle.std.proofs.lemmas.Nat.Bits.{bit_at-lt, bit_at_and}
use Rattle.std.proofs.Common.{◌≡◌, ℕ, arith}

pub bits_both : (a b bit : ℕ) → bit_at (bit_and a b) bit ≡ 1 → (bit_at a bit ≡ 1) × (bit_at b bit ≡ 1)
bits_both a b bit h =
    let m = bit_at_and a b bit in let la = bit_at-lt a bit in let lb = bit_at-lt b bit in
    (omega (arith, h, m, la, lb), omega (arith, h, m, la, lb))

pub both_bits : (a b bit : ℕ) → bit_at a bit ≡ 1 → bit_at b bit ≡ 1 → bit_at (bit_and a b) bit ≡ 1
both_bits a b bit p q = let m = bit_at_and a b bit in omega (arith, m, p, q)
