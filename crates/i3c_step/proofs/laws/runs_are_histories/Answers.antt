-- The history keeps the states between.
use Rattle.i3c_step.proofs.Kept.{runs_are_histories}
use Rattle.i3c_step.proofs.laws.runs_are_histories.Goals as goal

pub returns : goal.returns
returns c start events replies new run = runs_are_histories start events replies new run
