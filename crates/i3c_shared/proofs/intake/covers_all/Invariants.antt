use Rattle.std.proofs.Common.{◌≡◌}
use Rattle.i3c_shared.proofs.Covering.{Covers}
use Rattle.i3c_shared.proofs.intake.covers_all.Given as goal

abbrev pub invariant-loop-port : goal.invariant-loop-port
invariant-loop-port l = (l.rings.items ≡ l.initial.rings.items) × Covers l.initial.rings.items l.initial.port-items l.port-items l.port-index l.whole
