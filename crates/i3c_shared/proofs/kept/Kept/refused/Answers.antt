use Rattle.i3c_shared.proofs.kept.Kept.refused.Goals as goal

pub returns-clause-prefix : goal.returns-clause-prefix
returns-clause-prefix g c = rw (← c.bus.view_is) c.compare_all.ensures.prefix
