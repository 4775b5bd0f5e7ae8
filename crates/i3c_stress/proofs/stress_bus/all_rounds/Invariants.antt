use Rattle.std.proofs.Common.{◌≡◌, ◌+◌}
use Rattle.i3c_stress.proofs.stress_bus.all_rounds.Given as goal

abbrev pub invariant-loop : goal.invariant-loop
invariant-loop g l = l.session.frames ≡ l.initial.session.frames + l.counter
