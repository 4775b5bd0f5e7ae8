-- Bytes that stand for what clauses see.
use Rattle.std.proofs.Common.{◌≡◌, ◌∙◌, ℕ, zero, suc, ◌<◌, Bool, true, false, List, [], ◌∷◌, get_or, ap, arith, refl, sym}
use Rattle.std.specs.Int.{from_le_bytes, to_le_bytes, w16, w64}
use Rattle.std.proofs.lemmas.Nat.{le_bytes_2, le_bytes_8}
use Rattle.i3c_base.specs.State.{Device}
use Rattle.i3c_base.specs.AddressBytes.{byte_of}
use Rattle.i3c_base.proofs.AddressByteLaws.{byte_own, byte_small}
use Rattle.i3c_device.specs.ByteFields.{HaveSameByteFields, FitBytes, bit_of, field_bytes}

bit_small : (b : Bool) → bit_of b < 256
bit_small false = omega arith
bit_small true = omega arith

fields_small : (d : Device) → FitBytes d → (i : ℕ) → get_or (field_bytes d) i 0 < 256
fields_small d h zero = byte_small d.fixed h.fixed
fields_small d h (suc zero) = byte_small d.address h.address
fields_small d h (suc (suc zero)) = bit_small d.willing
fields_small d h (suc (suc (suc zero))) = bit_small d.join_wish
fields_small d h (suc (suc (suc (suc zero)))) = bit_small d.role_wish
fields_small d h (suc (suc (suc (suc (suc zero))))) = bit_small d.hearing
fields_small d h (suc (suc (suc (suc (suc (suc zero)))))) = h.written
fields_small d h (suc (suc (suc (suc (suc (suc (suc zero))))))) = h.read
fields_small d h (suc (suc (suc (suc (suc (suc (suc (suc i)))))))) = omega arith

-- one number is of one list of bytes
same_bytes : (d e : Device) (n m : ℕ) → FitBytes d → FitBytes e → n ≡ from_le_bytes w64 (field_bytes d) → m ≡ from_le_bytes w64 (field_bytes e) → n ≡ m → field_bytes d ≡ field_bytes e
same_bytes d e n m h k is are same =
    sym (le_bytes_8 (field_bytes d) n refl (fields_small d h) is) ∙ (ap (to_le_bytes w64) same ∙ le_bytes_8 (field_bytes e) m refl (fields_small e k) are)

bit_own : (b c : Bool) → bit_of b ≡ bit_of c → b ≡ c
bit_own false false h = refl
bit_own false true h = absurd (omega (arith, h))
bit_own true false h = absurd (omega (arith, h))
bit_own true true h = refl

-- they are where the numbers are
pub same_byte_fields : (d e : Device) (n m : ℕ) → FitBytes d → FitBytes e → n ≡ from_le_bytes w64 (field_bytes d) → m ≡ from_le_bytes w64 (field_bytes e) → n ≡ m → HaveSameByteFields d e
same_byte_fields d e n m h k is are same = (
  byte_own d.fixed e.fixed h.fixed k.fixed (at 0),
  byte_own d.address e.address h.address k.address (at 1),
  bit_own d.willing e.willing (at 2),
  bit_own d.join_wish e.join_wish (at 3),
  bit_own d.role_wish e.role_wish (at 4),
  bit_own d.hearing e.hearing (at 5),
  at 6,
  at 7,
)
  where
    at : (i : ℕ) → get_or (field_bytes d) i 0 ≡ get_or (field_bytes e) i 0
    at i = ap (λ bytes. get_or bytes i 0) (same_bytes d e n m h k is are same)

-- and then the bytes are the same
pub fields_alike : (d e : Device) → HaveSameByteFields d e → field_bytes d ≡ field_bytes e
fields_alike d e h i =
    byte_of (h.0 i) ∷ byte_of (h.1 i) ∷ bit_of (h.2 i) ∷ bit_of (h.3 i) ∷ bit_of (h.4 i) ∷ bit_of (h.5 i) ∷ h.6 i ∷ h.7 i ∷ []

pair_small : (a b : ℕ) → a < 256 → b < 256 → (i : ℕ) → get_or (a ∷ b ∷ []) i 0 < 256
pair_small a b l m zero = l
pair_small a b l m (suc zero) = m
pair_small a b l m (suc (suc i)) = omega arith

-- one number of 16 bits is of one pair of bytes
pub same_pair : (a b c d n m : ℕ) → a < 256 → b < 256 → c < 256 → d < 256 → n ≡ from_le_bytes w16 (a ∷ b ∷ []) → m ≡ from_le_bytes w16 (c ∷ d ∷ []) → n ≡ m → (a ≡ c) × (b ≡ d)
same_pair a b c d n m l k j i is are same =
    let pairs : ◌≡◌ {A = List ℕ} (a ∷ b ∷ []) (c ∷ d ∷ []) = sym (le_bytes_2 (a ∷ b ∷ []) n refl (pair_small a b l k) is) ∙ (ap (to_le_bytes w16) same ∙ le_bytes_2 (c ∷ d ∷ []) m refl (pair_small c d j i) are) in
    (ap (λ bytes. get_or bytes 0 0) pairs, ap (λ bytes. get_or bytes 1 0) pairs)
