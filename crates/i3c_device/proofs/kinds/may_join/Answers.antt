use Rattle.std.proofs.Common.{◌∙◌}
use Rattle.i3c_device.proofs.KindLaws.{has_fourth}
use Rattle.i3c_device.proofs.kinds.may_join.Goals as goal

pub returns : goal.returns
returns c = c.contains.ensures tt ∙ has_fourth c.args.kinds.0
