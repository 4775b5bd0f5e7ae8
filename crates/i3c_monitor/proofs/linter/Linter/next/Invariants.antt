use Rattle.std.proofs.Common.{◌≡◌, ◌≤◌, length}
use Rattle.i3c_monitor.specs.Linting.{left, to_come}
use Rattle.i3c_monitor.proofs.linter.Linter.next.Given as goal

-- what was taken told nothing
abbrev pub invariant-loop-self : goal.invariant-loop-self
invariant-loop-self l = record {
  same : to_come l.self ≡ to_come l.initial.self;
  shorter : left l.self ≤ left l.initial.self;
}

abbrev pub decreases-loop-self : goal.decreases-loop-self
decreases-loop-self l = length l.self.rest.now
