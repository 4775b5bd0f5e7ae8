-- Registers and the one number that their bytes make.
use Rattle.std.proofs.Common.{◌≡◌, ◌∙◌, ℕ, zero, suc, ◌<◌, get_or, ap, arith, refl, sym}
use Rattle.std.specs.Int.{from_le_bytes, to_le_bytes, w32}
use Rattle.std.proofs.lemmas.Nat.{le_bytes_4}
use Rattle.i3c_table.specs.RegisterBytes.{FitBytes, register_bytes}
use Rattle.i3c_table.specs.declared.registers.Registers.{Registers}
use Rattle.i3c_base.proofs.AddressByteLaws.{byte_own, byte_small}

bytes_small : (r : Registers) → FitBytes r → (i : ℕ) → get_or (register_bytes r) i 0 < 256
bytes_small r h zero = h.bcr
bytes_small r h (suc zero) = h.dcr
bytes_small r h (suc (suc zero)) = byte_small r.fixed h.fixed
bytes_small r h (suc (suc (suc zero))) = omega arith
bytes_small r h (suc (suc (suc (suc i)))) = omega arith

-- one number is of one list of bytes
same_bytes : (r s : Registers) (n m : ℕ) → FitBytes r → FitBytes s → n ≡ from_le_bytes w32 (register_bytes r) → m ≡ from_le_bytes w32 (register_bytes s) → n ≡ m → register_bytes r ≡ register_bytes s
same_bytes r s n m h k is are same =
    sym (le_bytes_4 (register_bytes r) n refl (bytes_small r h) is) ∙ (ap (to_le_bytes w32) same ∙ le_bytes_4 (register_bytes s) m refl (bytes_small s k) are)

-- registers are the same where their numbers are
pub one_number : (r s : Registers) (n m : ℕ) → FitBytes r → FitBytes s → n ≡ from_le_bytes w32 (register_bytes r) → m ≡ from_le_bytes w32 (register_bytes s) → n ≡ m → r ≡ s
one_number r s n m h k is are same = λ i. record { bcr = record { 0 = at 0 i }; dcr = record { 0 = at 1 i }; fixed = byte_own r.fixed s.fixed h.fixed k.fixed (at 2) i }
  where
    at : (j : ℕ) → get_or (register_bytes r) j 0 ≡ get_or (register_bytes s) j 0
    at j = ap (λ bytes. get_or bytes j 0) (same_bytes r s n m h k is are same)
