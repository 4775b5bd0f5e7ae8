use Rattle.std.proofs.Common.{◌∙◌}
use Rattle.i3c_model.proofs.KindLaws.{has_fourth}
use Rattle.i3c_model.proofs.kinds.names_joins.Goals as goal

pub returns : goal.returns
returns c = c.contains.ensures tt ∙ has_fourth c.args.kinds.0
