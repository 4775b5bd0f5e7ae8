use Rattle.std.proofs.Common.{◌++◌, codes, refl}
use Rattle.std.proofs.lemmas.Result.{on_ok_weaker}
use Rattle.i3c_lines.specs.Faults.{label, labelled, quoted}
use Rattle.i3c_lines.proofs.form_faults.FormFault.push.Goals as goal

pub returns-in-Misfit : goal.returns-in-Misfit
returns-in-Misfit c =
    on_ok_weaker c.push_misfit.result
    (λ told. (labelled (label c.in-Misfit.field) ++ (quoted c.in-Misfit.token.now ++ (codes ": " ++ told.0)), rw c.in-Misfit.is (told.0, told.1, refl), told.2))
    c.push_misfit.ensures
