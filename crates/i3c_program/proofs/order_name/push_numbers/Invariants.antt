use Rattle.std.proofs.Common.{◌≡◌, ◌++◌, drop}
use Rattle.i3c_orders.specs.Numbers.{numbers_of, pointed}
use Rattle.i3c_program.proofs.order_name.push_numbers.Given as goal

abbrev pub invariant-loop-index : goal.invariant-loop-index
invariant-loop-index l = l.text ++ pointed (numbers_of (drop l.index l.rest)) ≡ l.initial.text ++ pointed (numbers_of l.rest)
