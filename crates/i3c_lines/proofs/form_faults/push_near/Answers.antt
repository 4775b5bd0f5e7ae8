use Rattle.std.proofs.Common.{◌++◌, ◌∙◌, ◌≡◌, ℕ, List, Result, Ok, Err, OnOk, codes, ap, append_assoc, inr, refl}
use Rattle.i3c_lines.specs.Faults.{IsNear, quoted}
use Rattle.i3c_lines.proofs.form_faults.push_near.Goals as goal

near : {E : Type 0} → (r : Result (Unit {0}) E) (old mid new word : List ℕ) → mid ≡ old ++ codes "; the nearest is " → OnOk r (new ≡ mid ++ quoted word)
    → OnOk r ((told : List ℕ) × IsNear told × (new ≡ old ++ told))
near (Ok done) old mid new word first last =
    (codes "; the nearest is " ++ quoted word, inr (word, refl), last ∙ ap (λ t. t ++ quoted word) first ∙ append_assoc old (codes "; the nearest is ") (quoted word))
near (Err e) old mid new word first last = tt

pub returns-in_ok-push-in-Some : goal.returns-in_ok-push-in-Some
returns-in_ok-push-in-Some c =
    near c.push_quoted.result c.args.text.now c.push.new.self c.push_quoted.new.text c.as_bytes.result.now c.in_ok-push-in-Some.ensures.appended c.push_quoted.ensures
