-- The AND of what the slots drive, slot by slot. D s v says that slot s drives v.
use Rattle.std.specs.Int.{bit_at}
use Rattle.std.specs.Int.Bits.{bit_and}
use Rattle.std.proofs.lemmas.Bool.{cases_eq}
use Rattle.std.proofs.lemmas.Nat.{and_le_l}
use Rattle.std.proofs.lemmas.Nat.Bits.{bit_at_ones}
use Rattle.std.proofs.Common.{◌≡◌, ℕ, ◌+◌, ◌<◌, lit<, inl, inr, subst, arith}
use Rattle.i3c_base.proofs.BitLaws.{bits_both, both_bits}
use Rattle.i3c_base.specs.Serve.{IsAnd}

module _ (D : ℕ → ℕ → Type 0) where
  -- what the slots below n drive
  abbrev pub Below : ℕ → ℕ → ℕ → Type 0
  Below n s v = (s < n) × D s v

  pub and_start : IsAnd 255 (Below 0)
  and_start = (lit< tt, λ bit l. (λ h s v d. let none : s < 0 = d.0 in absurd (omega arith), λ h. bit_at_ones 8 bit l))

  -- one slot more, which drives nothing
  pub and_past : (n both : ℕ) → IsAnd both (Below n) → ((v : ℕ) → D n v → ⊥) → IsAnd both (Below (n + 1))
  and_past n both h none = (
    h.0,
    λ bit l. (
      λ b s v d. elim (cases_eq s n) [ inl e ↦ absurd (none v (subst (λ k. D k v) e d.1)) | inr ne ↦ (h.1 bit l).0 b s v ((let m = d.0 in omega arith), d.1) ],
      λ all. (h.1 bit l).1 (λ s v d. all s v ((let m = d.0 in omega arith), d.1)),
    ),
  )

  -- one slot more, which drives this byte alone
  pub and_with : (n both byte : ℕ) → IsAnd both (Below n) → D n byte → ((v : ℕ) → D n v → byte ≡ v) → IsAnd (bit_and both byte) (Below (n + 1))
  and_with n both byte h driven alone = (
    (let low = h.0 in let less = and_le_l both byte in omega arith),
    λ bit l. (
      λ b s v d. let p = bits_both both byte bit b in elim (cases_eq s n) [
        | inl e ↦ subst (λ x. bit_at x bit ≡ 1) (alone v (subst (λ k. D k v) e d.1)) p.1
        | inr ne ↦ (h.1 bit l).0 p.0 s v ((let m = d.0 in omega arith), d.1)
      ],
      λ all. both_bits both byte bit ((h.1 bit l).1 (λ s v d. all s v ((let m = d.0 in omega arith), d.1))) (all n byte (omega arith, driven)),
    ),
  )

  -- past the last slot nobody drives
  pub and_whole : (n both : ℕ) → ((s v : ℕ) → D s v → s < n) → IsAnd both (Below n) → IsAnd both D
  and_whole n both within h = (
    h.0,
    λ bit l. (
      λ b s v d. (h.1 bit l).0 b s v (within s v d, d),
      λ all. (h.1 bit l).1 (λ s v d. all s v d.1),
    ),
  )

-- the AND of the same
pub and_alike : (D E : ℕ → ℕ → Type 0) (both : ℕ) → ((s v : ℕ) → D s v → E s v) → ((s v : ℕ) → E s v → D s v) → IsAnd both D → IsAnd both E
and_alike D E both to from h = (h.0, λ bit l. ((λ b s v e. (h.1 bit l).0 b s v (from s v e)), λ all. (h.1 bit l).1 (λ s v d. all s v (to s v d))))
