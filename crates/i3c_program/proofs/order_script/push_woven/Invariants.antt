use Rattle.std.proofs.Common.{◌≡◌, ◌≤◌, ◌++◌, drop, length}
use Rattle.i3c_program.specs.Scripts.{woven}
use Rattle.i3c_program.proofs.order_script.push_woven.Given as goal

abbrev pub invariant-loop-index : goal.invariant-loop-index
invariant-loop-index l = (l.at ≤ length l.runs) × (l.text ++ woven l.lines l.risk (drop l.at l.runs) (drop l.index l.choices) ≡ l.initial.text ++ woven l.lines l.risk l.runs l.choices)
