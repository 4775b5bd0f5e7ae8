use Rattle.std.proofs.Common.{◌≡◌}
use Rattle.i3c_facts.specs.Holding.{waiting_below}
use Rattle.i3c_facts.proofs.counting.waiting.Given as goal

abbrev pub invariant-loop-number : goal.invariant-loop-number
invariant-loop-number l = l.count ≡ waiting_below l.bus.state l.number
