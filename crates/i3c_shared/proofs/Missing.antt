-- Ports that are out and not handed in, slot by slot.
use Rattle.std.proofs.Common.{◌≡◌, ℕ, zero, suc, ◌+◌, ◌<◌, ◌≤◌, ◌==◌, Bool, true, false, List, [], ◌∷◌, length, arith, subst, refl}
use Rattle.std.proofs.lemmas.Bool.{false≢true}
use Rattle.std.proofs.lemmas.Bool.Decides.{nat_tests}
use Rattle.i3c_shared.specs.Ports.{IsMissing}
use Rattle.i3c_shared.specs.Rings.{is_out}
use Rattle.i3c_shared.specs.Values.{PortValue, Rings}

pub missing_next : (rings : Rings) (ports : List PortValue) (i : ℕ) → ((t : ℕ) → t < i → ¬ IsMissing rings ports t) → ¬ IsMissing rings ports i → (t : ℕ) → t < i + 1 → ¬ IsMissing rings ports t
missing_next rings ports i before here t low miss = go (t == i) refl
  where
    go : (b : Bool) → (t == i) ≡ b → ⊥
    go true is = let e : t ≡ i = grind (arith, nat_tests) in here (subst (λ k. IsMissing rings ports k) e miss)
    go false is = before t (grind (arith, nat_tests)) miss
