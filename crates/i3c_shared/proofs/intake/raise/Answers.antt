use Rattle.i3c_shared.proofs.Replies.{raise_unrecorded}
use Rattle.i3c_shared.proofs.Taken.{adds_one}
use Rattle.i3c_shared.proofs.intake.raise.Goals as goal

pub returns-clause-added : goal.returns-clause-added
returns-clause-added c = adds_one _ _ _ c.apply.result c.apply.ensures.start c.apply.ensures.run c.apply.ensures.step

pub returns-clause-room : goal.returns-clause-room
returns-clause-room c = c.apply.ensures.room c.requires.room (raise_unrecorded _ c.args.slot c.args.byte _ _ c.apply.ensures.step)
