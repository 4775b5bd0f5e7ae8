-- Identities and their numbers.
use Rattle.std.proofs.Common.{inl, inr, ◌≡◌, ◌<◌, arith}
use Rattle.std.proofs.lemmas.Bool.{cases_lt}
use Rattle.i3c_base.specs.declared.identity.Identity.{Identity}
use Rattle.i3c_base.specs.Numbers.{IsBelow, IsInRange, number_of}

-- identities of one number are equal
pub same_number : (i j : Identity) → IsInRange i → IsInRange j → number_of i ≡ number_of j → i ≡ j
same_number i j a b e =
    let dcr : i.dcr.0 ≡ j.dcr.0 = omega arith in
    let bcr : i.bcr.0 ≡ j.bcr.0 = omega arith in
    let pid : i.pid ≡ j.pid = omega arith in
    λ t. record { pid = pid t; bcr = record { 0 = bcr t }; dcr = record { 0 = dcr t } }

-- the identity that is below another has the smaller number
pub below_number : (i j : Identity) → IsInRange i → IsInRange j → IsBelow i j → number_of i < number_of j
below_number i j a b h = elim h [ inl p ↦ omega arith | inr q ↦ elim q [ inl r ↦ omega arith | inr t ↦ omega arith ] ]

-- and the identity of the smaller number is below
pub number_below : (i j : Identity) → IsInRange i → IsInRange j → number_of i < number_of j → IsBelow i j
number_below i j a b h = elim (cases_lt i.pid j.pid) [
  | inl p ↦ inl p
  | inr p ↦
      let pid : i.pid ≡ j.pid = omega arith in elim (cases_lt i.bcr.0 j.bcr.0) [
        | inl q ↦ inr (inl (pid, q))
        | inr q ↦ let bcr : i.bcr.0 ≡ j.bcr.0 = omega arith in inr (inr (pid, bcr, omega arith))
      ]
]
