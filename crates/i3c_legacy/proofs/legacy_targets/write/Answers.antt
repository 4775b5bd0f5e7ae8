use Rattle.std.proofs.Common.{rules}
use Rattle.i3c_legacy.proofs.legacy_targets.write.Goals as goal

pub returns : goal.returns
returns c = search rules
