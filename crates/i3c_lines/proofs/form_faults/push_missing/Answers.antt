use Rattle.std.proofs.Common.{◌++◌, ◌∙◌, ◌≡◌, ℕ, List, Result, Ok, Err, OnOk, codes, ap, append_assoc, subst}
use Rattle.i3c_lines.specs.Faults.{expected, label}
use Rattle.i3c_lines.proofs.form_faults.push_missing.Goals as goal

three : {E : Type 0} → (r : Result (Unit {0}) E) (t a b c x1 x2 x3 : List ℕ) → x1 ≡ t ++ a → x2 ≡ x1 ++ b → OnOk r (x3 ≡ x2 ++ c) → OnOk r (x3 ≡ t ++ (a ++ (b ++ c)))
three (Ok done) t a b c x1 x2 x3 e1 e2 e3 = e3 ∙ ap (λ x. x ++ c) (e2 ∙ ap (λ x. x ++ b) e1) ∙ append_assoc (t ++ a) b c ∙ append_assoc t a (b ++ c)
three (Err e) t a b c x1 x2 x3 e1 e2 e3 = tt

pub returns : goal.returns
returns c =
    let text = c.args.text.now in
    three c.push-3.result text (label c.args.field) (codes " is missing: ") (expected c.args.field) c.push.new.self c.push-2.new.self c.push-3.new.self
    (c.in_ok-push.ensures.appended ∙ ap (λ t. text ++ t) (c.as_bytes.ensures.value ∙ c.label.ensures))
    c.in_ok-push-2.ensures.appended
    (subst (λ t. OnOk c.push-3.result (c.push-3.new.self ≡ c.push-2.new.self ++ t)) (c.as_bytes-2.ensures.value ∙ c.expected.ensures) c.push-3.ensures.appended)
