use Rattle.std.proofs.Common.{◌∙◌}
use Rattle.i3c_model.proofs.KindLaws.{has_second}
use Rattle.i3c_model.proofs.kinds.names_roles.Goals as goal

pub returns : goal.returns
returns c = c.contains.ensures tt ∙ has_second c.args.kinds.0
