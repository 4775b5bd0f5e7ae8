use Rattle.std.proofs.Common.{◌≡◌, ◌++◌, length}
use Rattle.i3c_monitor.specs.Lines.{data_text}
use Rattle.i3c_monitor.proofs.printing.push_data.Given as goal

abbrev pub invariant-loop-rest : goal.invariant-loop-rest
invariant-loop-rest l = l.text ++ data_text l.rest ≡ l.initial.text ++ data_text l.fn.symbols

abbrev pub decreases-loop-rest : goal.decreases-loop-rest
decreases-loop-rest l = length l.rest
