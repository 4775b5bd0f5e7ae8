use Rattle.std.proofs.Common.{◌≡◌, All, Some}
use Rattle.std.proofs.Math.ListN.{take}
use Rattle.clap.specs.Words.{subcommand_name_of}
use Rattle.i3c_task.specs.Commands.{name_of}
use Rattle.i3c_task.proofs.task.verb_given.Given as goal

abbrev pub invariant-loop-usage : goal.invariant-loop-usage
invariant-loop-usage l = All (λ usage. subcommand_name_of l.matches ≡ Some (name_of usage.verb) → ⊥) (take l.usage-index l.usage-items)
