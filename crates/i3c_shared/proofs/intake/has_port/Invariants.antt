use Rattle.std.proofs.Common.{◌≢◌, ℕ, ◌<◌}
use Rattle.i3c_shared.specs.Ports.{IsAt}
use Rattle.i3c_shared.specs.Values.{PortValue}
use Rattle.i3c_shared.proofs.intake.has_port.Given as goal

abbrev pub invariant-loop-port : goal.invariant-loop-port
invariant-loop-port l = (k : ℕ) (p : PortValue) → k < l.port-index → IsAt l.ports.items k p → p.slot ≢ l.slot
