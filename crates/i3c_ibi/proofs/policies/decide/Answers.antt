use Rattle.std.proofs.Common.{rules}
use Rattle.i3c_ibi.proofs.policies.decide.Goals as goal

pub returns-else-is_known-clause-unasked : goal.returns-else-is_known-clause-unasked
returns-else-is_known-clause-unasked g c = search rules

pub returns-then-is_known-clause-asked : goal.returns-then-is_known-clause-asked
returns-then-is_known-clause-asked g c = search rules
