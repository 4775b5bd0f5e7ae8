-- How many interrupts wait in all slots.
use Rattle.std.proofs.Common.{◌≡◌, ℕ, zero, suc, ◌+◌, ◌^◌, ◌<◌, ◌≤◌, inl, inr, subst, sym, arith}
use Rattle.std.proofs.lemmas.Bool.{cases_eq}
use Rattle.i3c_base.specs.State.{State, device_at}
use Rattle.i3c_bus.specs.Readings.{waiting_of}
use Rattle.i3c_facts.specs.Holding.{waiting_below}

-- more slots have no fewer
below_more : (st : State) (n m : ℕ) → n ≤ m → waiting_below st n ≤ waiting_below st m
below_more st n zero l = let none : n ≡ 0 = omega (arith, l) in subst (λ k. waiting_below st k ≤ 0) (sym none) (omega arith)
below_more st n (suc m) l = elim (cases_eq n (suc m)) [
  | inl e ↦ subst (λ k. waiting_below st n ≤ waiting_below st k) e (omega arith)
  | inr ne ↦ let fewer = below_more st n m (omega (arith, l, ne)) in omega (arith, fewer)
]

-- what is too many in some slots is too many in all
pub too_many : (st : State) (n all count : ℕ) → n < all → count ≡ waiting_below st n → (count + waiting_of (device_at st n) < 2 ^ 64 → ⊥) → 2 ^ 64 ≤ waiting_below st all
too_many st n all count l is past = let more = below_more st (suc n) all (omega (arith, l)) in omega (arith, more, is, past)
