use Rattle.i3c_shared.proofs.Booked.{carried_booked}
use Rattle.i3c_shared.proofs.kept.Kept.apply_for.Goals as goal

pub invariant_of-self : goal.invariant_of-self
invariant_of-self g c = carried_booked _ _ _ c.args.event c.take_and_apply_for.result c.self.invariant c.requires.local c.take_and_apply_for.ensures.grows
