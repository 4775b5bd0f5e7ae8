use Rattle.std.proofs.Common.{◌≡◌, ◌∙◌, ℕ, List, ◌++◌, Result, Ok, Err, ap, append_assoc, codes}
use Rattle.std.specs.Fmt.{decimal}
use Rattle.std.specs.Result.{OnOk}
use Rattle.i3c_lines.specs.declared.form_faults.FormFault.{FormFault}
use Rattle.i3c_lines.specs.Faults.{IsFaultText}
use Rattle.i3c_runner.proofs.watched.push_formless.Goals as goal

-- a number, and a fault's text behind it
formless_told : {A B : Type 0} → (r : Result A B) (fault : FormFault) (number : ℕ) (t0 t1 t2 t3 : List ℕ) → t1 ≡ t0 ++ decimal number → t2 ≡ t1 ++ codes ": "
    → OnOk r ((told : List ℕ) × IsFaultText fault told × (t3 ≡ t2 ++ told)) → OnOk r ((reason : List ℕ) × IsFaultText fault reason × (t3 ≡ t0 ++ (decimal number ++ (codes ": " ++ reason))))
formless_told (Ok a) fault number t0 t1 t2 t3 one two (told, is, last) =
    (told, is, last ∙ ap (λ t. t ++ told) (two ∙ ap (λ t. t ++ codes ": ") one) ∙ append_assoc (t0 ++ decimal number) (codes ": ") told ∙ append_assoc t0 (decimal number) (codes ": " ++ told))
formless_told (Err b) fault number t0 t1 t2 t3 one two fails = fails

pub returns : goal.returns
returns c = formless_told c.push-2.result c.args.fault.now c.args.number c.args.text.now c.push_decimal.new.self c.push.new.self c.push-2.new.text c.in_ok-push_decimal.ensures c.in_ok-push.ensures.appended c.push-2.ensures
