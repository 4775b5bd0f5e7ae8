use Rattle.std.proofs.Common.{inl, inr, refl, sym}
use Rattle.i3c_program.specs.declared.standing.Standing.{Standing}
use Rattle.i3c_program.proofs.Written.{if_ok}
use Rattle.i3c_program.proofs.trial.Trial.again.Goals as goal

pub returns-in-Going : goal.returns-in-Going
returns-in-Going c = if_ok _ _ c.end_run.result (λ came ends. inr (inl (c.in-Going.is, ends))) c.end_run.ensures

pub returns-in-Left : goal.returns-in-Left
returns-in-Left c = inr (inr (c.in-Left.is, (record c.args.self.now { standing = Standing.Going }, refl, refl, ((refl, refl, refl, (refl, refl)), refl, refl), c.go_on.ensures)))
