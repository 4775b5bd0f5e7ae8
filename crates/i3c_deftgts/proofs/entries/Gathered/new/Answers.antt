use Rattle.i3c_deftgts.proofs.GatheringLaws.{marked_none}
use Rattle.i3c_deftgts.proofs.entries.Gathered.new.Goals as goal

pub invariant_of-result : goal.invariant_of-result
invariant_of-result c = marked_none c.new.result.items c.new.ensures
