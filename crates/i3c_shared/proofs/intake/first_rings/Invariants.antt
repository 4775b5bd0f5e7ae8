use Rattle.std.proofs.Common.{◌≡◌}
use Rattle.std.specs.Prelude.{None, replicate}
use Rattle.i3c_shared.proofs.intake.first_rings.Given as goal

abbrev pub invariant-loop : goal.invariant-loop
invariant-loop l = l.rings.items ≡ replicate l.counter None
