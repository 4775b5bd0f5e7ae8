use Rattle.i3c_explore.proofs.owners.note.Goals as goal

pub loop-weight-init : goal.loop-weight-init
loop-weight-init c = c.requires.owned

pub loop-weight-preserved : goal.loop-weight-preserved
loop-weight-preserved c = c.in_ok-push_owner.ensures

pub returns : goal.returns
returns c = c.loop-weight.invariant
