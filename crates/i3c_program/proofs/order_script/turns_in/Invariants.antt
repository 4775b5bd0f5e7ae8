use Rattle.std.proofs.Common.{◌≡◌, ◌++◌, drop}
use Rattle.i3c_program.specs.Scripts.{turns_in}
use Rattle.i3c_program.proofs.order_script.turns_in.Given as goal

abbrev pub invariant-loop-index : goal.invariant-loop-index
invariant-loop-index l = l.turns.items ++ turns_in (drop l.index l.choices) ≡ turns_in l.choices
