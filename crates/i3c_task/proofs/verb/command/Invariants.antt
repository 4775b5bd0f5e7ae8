use Rattle.std.proofs.Common.{◌≡◌, false, map}
use Rattle.std.proofs.Math.ListN.{take}
use Rattle.clap.specs.Words.{app_of}
use Rattle.clap.specs.declared.builder.command.Command.TheViews.{out-Command}
use Rattle.i3c_task.specs.Table.{rule_of_argument}
use Rattle.i3c_task.specs.declared.argument.Bonds.{Bonds}
use Rattle.i3c_task.proofs.Tables.{with_rules}
use Rattle.i3c_task.proofs.verb.command.Given as goal

abbrev pub invariant-loop-argument : goal.invariant-loop-argument
invariant-loop-argument l =
    l.bonds ≡ Bonds.Left
    → (app_of l.command ≡ with_rules l.usage.name.now (map rule_of_argument (take l.argument-index l.argument-items)))
    × ((out-Command l.command).has_globals ≡ false)
