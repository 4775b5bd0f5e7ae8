-- The text of pieces that are pushed one behind the other.
use Rattle.std.proofs.Common.{◌≡◌, ◌∙◌, ℕ, List, ◌++◌, Result, Ok, Err, OnOk, ap, append_assoc}

-- three texts, if the last was pushed
pub three : {E : Type 0} → (r : Result (Unit {0}) E) (t a b c x1 x2 x3 : List ℕ) → x1 ≡ t ++ a → x2 ≡ x1 ++ b → OnOk r (x3 ≡ x2 ++ c) → OnOk r (x3 ≡ t ++ (a ++ (b ++ c)))
three (Ok done) t a b c x1 x2 x3 e1 e2 e3 = e3 ∙ ap (λ x. x ++ c) (e2 ∙ ap (λ x. x ++ b) e1) ∙ append_assoc (t ++ a) b c ∙ append_assoc t a (b ++ c)
three (Err e) t a b c x1 x2 x3 e1 e2 e3 = tt

-- four texts, if the last was pushed
pub four : {E : Type 0} → (r : Result (Unit {0}) E) (t a b c d x1 x2 x3 x4 : List ℕ) → x1 ≡ t ++ a → x2 ≡ x1 ++ b → x3 ≡ x2 ++ c
    → OnOk r (x4 ≡ x3 ++ d) → OnOk r (x4 ≡ t ++ (a ++ (b ++ (c ++ d))))
four (Ok done) t a b c d x1 x2 x3 x4 e1 e2 e3 e4 =
    e4 ∙ ap (λ x. x ++ d) (e3 ∙ ap (λ x. x ++ c) (e2 ∙ ap (λ x. x ++ b) e1))
    ∙ append_assoc ((t ++ a) ++ b) c d ∙ append_assoc (t ++ a) b (c ++ d) ∙ append_assoc t a (b ++ (c ++ d))
four (Err e) t a b c d x1 x2 x3 x4 e1 e2 e3 e4 = tt
