use Rattle.std.proofs.Common.{sym}
use Rattle.i3c_model.proofs.Taking.{follows_step}
use Rattle.i3c_model.proofs.plain.Plain.step.Goals as goal

pub returns-in-None-clause-chosen : goal.returns-in-None-clause-chosen
returns-in-None-clause-chosen c = follows_step c.args.self.now c.args.event.now c.args.choice c.act.result (sym c.in-None.ensures) c.act.ensures.chosen
