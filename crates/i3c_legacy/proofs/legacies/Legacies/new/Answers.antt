use Rattle.i3c_legacy.proofs.DeclaredLaws.{board_of_none, declared_none}
use Rattle.i3c_legacy.proofs.legacies.Legacies.new.Goals as goal

pub invariant_of-result : goal.invariant_of-result
invariant_of-result c = declared_none c.new.result.items c.new-2.result.items c.new-3.result.0 c.new.ensures c.new-2.ensures c.new-3.ensures

pub returns : goal.returns
returns c = board_of_none c.new.result.items c.new-2.result.items c.new.ensures c.new-2.ensures
