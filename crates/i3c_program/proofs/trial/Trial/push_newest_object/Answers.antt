use Rattle.std.proofs.Common.{refl, sym}
use Rattle.i3c_program.proofs.Written.{on_ok}
use Rattle.i3c_program.proofs.trial.Trial.push_newest_object.Goals as goal

pub returns-in-Some : goal.returns-in-Some
returns-in-Some c = on_ok c.push_told_object.result (λ w. (_, (c.in-Some.step.now, sym c.in-Some.ensures, refl), w)) c.push_told_object.ensures
