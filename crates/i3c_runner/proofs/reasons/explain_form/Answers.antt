use Rattle.i3c_runner.proofs.Reasoned.{form_told}
use Rattle.i3c_runner.proofs.reasons.explain_form.Goals as goal

pub returns-in_ok-push-in-Some : goal.returns-in_ok-push-in-Some
returns-in_ok-push-in-Some c =
    form_told c.end.result c.args.number c.args.line.now c.told_fault-fault.result c.args.text.now c.begin.new.text c.push.new.text c.end.new.self c.in-Some.ensures.told c.told_fault-fault.ensures c.in_ok-begin-in-Some.ensures
    c.in_ok-push-in-Some.ensures c.end.ensures
