-- Texts that are appended one after another.
use Rattle.std.proofs.Common.{◌≡◌, ◌∙◌, ◌++◌, ℕ, List, OnOk, Result, ap, append_assoc, subst, sym}

-- one more part was appended of a whole text
pub one_part : (whole before after part rest : List ℕ) → whole ≡ before ++ (part ++ rest) → after ≡ before ++ part → whole ≡ after ++ rest
one_part whole before after part rest is grown = is ∙ sym (append_assoc before part rest) ∙ ap (λ text. text ++ rest) (sym grown)

-- the last part was appended, if there was memory
pub last_part : {E : Type 0} (result : Result (Unit {0}) E) (whole before after part : List ℕ) → whole ≡ before ++ part → OnOk result (after ≡ before ++ part) → OnOk result (after ≡ whole)
last_part result whole before after part is grown = subst (λ text. OnOk result (after ≡ text)) (sym is) grown
