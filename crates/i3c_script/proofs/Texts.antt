-- Texts that are printed in several pieces.
use Rattle.std.proofs.Common.{◌≡◌, ◌∙◌, ℕ, List, ◌++◌, Result, Ok, Err, ap}
use Rattle.std.proofs.lemmas.List.{append_assoc}
use Rattle.std.specs.Result.{OnOk}

-- what follows from a fact of success
pub on_ok : {E : Type 0} → {P : Type 0} → {Q : Type 0} → (r : Result (Unit {0}) E) → (P → Q) → OnOk r P → OnOk r Q
on_ok (Ok done) f h = f h
on_ok (Err e) f h = tt

-- four texts, one behind the other
pub four : (t a b c d x1 x2 x3 x4 : List ℕ) → x1 ≡ t ++ a → x2 ≡ x1 ++ b → x3 ≡ x2 ++ c → x4 ≡ x3 ++ d → x4 ≡ t ++ (a ++ (b ++ (c ++ d)))
four t a b c d x1 x2 x3 x4 e1 e2 e3 e4 =
    e4 ∙ ap (λ x. x ++ d) (e3 ∙ ap (λ x. x ++ c) (e2 ∙ ap (λ x. x ++ b) e1))
    ∙ append_assoc ((t ++ a) ++ b) c d ∙ append_assoc (t ++ a) b (c ++ d) ∙ append_assoc t a (b ++ (c ++ d))
