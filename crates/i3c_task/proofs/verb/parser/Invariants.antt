use Rattle.std.proofs.Common.{◌≡◌}
use Rattle.clap.specs.Words.{app_of}
use Rattle.i3c_task.specs.declared.argument.Bonds.{Bonds}
use Rattle.i3c_task.proofs.Tables.{with_first}
use Rattle.i3c_task.proofs.verb.parser.Given as goal

abbrev pub invariant-loop-usage : goal.invariant-loop-usage
invariant-loop-usage l = l.bonds ≡ Bonds.Left → app_of l.parser ≡ with_first l.usage-index l.usage-items
