-- One event after another.
use Rattle.i3c_wire_laws.proofs.RunWalks.{legal_leads}
use Rattle.i3c_wire_laws.proofs.laws.runs_send_wires.Goals as goal

pub returns : goal.returns
returns c legacies main board start events replies new wire are begins h = legal_leads legacies.0 main board start events replies new wire are begins h
