use Rattle.std.proofs.Common.{rules, arith}
use Rattle.std.proofs.lemmas.Grind.{common_steps}
use Rattle.i3c_recorder.proofs.Widened.{widened}
use Rattle.i3c_recorder.proofs.run.Run.push.Goals as goal

pub invariant_of-self : goal.invariant_of-self
invariant_of-self c = grind (arith, common_steps)

pub invariant_of-self-in-None : goal.invariant_of-self-in-None
invariant_of-self-in-None c = grind (arith, common_steps)

pub returns-in-None-clause-entries : goal.returns-in-None-clause-entries
returns-in-None-clause-entries c =
    rw (← c.self.view_is, c.push_reserved-in-None.ensures.items, c.push_reserved-in-None-2.ensures.items) (widened c.self.inside.wide.items c.self.inside.packed.items c.args.entry c.len-at.result (search rules) c.self.invariant)
