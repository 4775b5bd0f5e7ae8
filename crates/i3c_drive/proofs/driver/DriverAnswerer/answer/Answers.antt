use Rattle.std.proofs.Common.{◌∙◌, ◌+◌, Err, None, Some, ap, length, min, subst, sym}
use Rattle.i3c_drive.specs.Steps.{Closes, HasHeard, Obeyed, state}
use Rattle.i3c_drive.proofs.Runs.{line_answered}
use Rattle.i3c_script.proofs.Texts.{on_ok}
use Rattle.i3c_drive.proofs.driver.DriverAnswerer.answer.Goals as goal

pub returns-in-Ok : goal.returns-in-Ok
returns-in-Ok c =
    let from = c.args.self.now in
    let mid = c.obey.new.self in
    let to = c.close.new.self in
    let text = c.close.new.text in
    let number = c.args.number in
    let log = c.log-count.result.now in
    let told = c.in-Ok.ensures in
    let (pieces, heard, does) = told.heard in
    let here = subst (λ form. HasHeard form pieces mid c.obey.new.text) (sym told.form) heard in
    let count = c.close.ensures.counted ∙ ap (λ n. min (n + 0) 18446744073709551615) told.refused in
    on_ok c.close.result (λ (closes : Closes number (length log) pieces None mid to text). line_answered number c.args.line.now pieces None log from mid to text does c.close.ensures.state c.log-count.ensures told.form c.close.ensures.form told.asked closes count)
    (c.close.ensures.told pieces here)

pub returns-in-Err-Refused : goal.returns-in-Err-Refused
returns-in-Err-Refused c =
    let from = c.args.self.now in
    let mid = c.obey.new.self in
    let to = c.close-in-Err-Refused.new.self in
    let text = c.close-in-Err-Refused.new.text in
    let number = c.args.number in
    let log = c.log-count.result.now in
    let why = Some c.in-Err-Refused.why in
    let told = c.in-Err-Refused.ensures in
    let (pieces, heard, does) = subst (λ stop. Obeyed from.form (state from) c.args.line.now mid c.obey.new.text (Err stop)) c.in-Err-Refused.field-0-is told.heard in
    let here = subst (λ form. HasHeard form pieces mid c.obey.new.text) (sym told.form) heard in
    let count = c.close-in-Err-Refused.ensures.counted ∙ ap (λ n. min (n + 1) 18446744073709551615) told.refused in
    on_ok c.close-in-Err-Refused.result
    (λ (closes : Closes number (length log) pieces why mid to text). line_answered number c.args.line.now pieces why log from mid to text does c.close-in-Err-Refused.ensures.state c.log-count.ensures told.form c.close-in-Err-Refused.ensures.form told.asked closes count)
    (c.close-in-Err-Refused.ensures.told pieces here)
