-- The slots of names, one behind the other.
use Rattle.std.proofs.Common.{◌≡◌, ◌∙◌, ℕ, List, [], ◌∷◌, ◌++◌, Result, Ok, Err, append_assoc}
use Rattle.std.specs.Prelude.{MatchResult}
use Rattle.i3c_lines.specs.declared.refusals.Refusal.{Refusal}
use Rattle.i3c_script.specs.Asking.{with_others}

-- a slot and those of other names, put behind others
pub gathered : (slot : ℕ) (others : Result (List ℕ) Refusal) (result : Result (Unit {0}) Refusal) (before now : List ℕ)
    → MatchResult others (λ found. (result ≡ Ok tt) × (now ≡ (before ++ slot ∷ []) ++ found)) (λ why. result ≡ Err why)
    → MatchResult (with_others (Ok slot) others) (λ found. (result ≡ Ok tt) × (now ≡ before ++ found)) (λ why. result ≡ Err why)
gathered slot (Ok found) result before now h = (h.0, h.1 ∙ append_assoc before (slot ∷ []) found)
gathered slot (Err why) result before now h = h
