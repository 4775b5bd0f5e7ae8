use Rattle.std.proofs.Common.{arith}
use Rattle.std.proofs.lemmas.Grind.{common_steps}
use Rattle.i3c_monitor.proofs.decoded.Span.of.Goals as goal

pub returns : goal.returns
returns c = grind (arith, common_steps)
