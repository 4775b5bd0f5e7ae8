use Rattle.std.proofs.Common.{◌≡◌}
use Rattle.i3c_facts.specs.Holding.{assigned_below}
use Rattle.i3c_facts.proofs.counting.are_assigned.Given as goal

abbrev pub invariant-loop-number : goal.invariant-loop-number
invariant-loop-number l = l.are ≡ assigned_below l.bus.state l.number
