-- By the places that the run's symbols lead to.
use Rattle.std.proofs.Common.{true, None}
use Rattle.i3c_wire_laws.specs.Wires.{place_in}
use Rattle.i3c_wire_laws.proofs.Numbered.{leads_clocked}
use Rattle.i3c_wire_laws.proofs.RunWalks.{legal_leads}
use Rattle.i3c_wire_laws.proofs.numbers.runs_send_the_bits_in_order.Goals as goal

pub returns : goal.returns
returns c legacies main board start events replies new wire are begins h =
    leads_clocked legacies.0 true None wire (place_in new) (legal_leads legacies.0 main board start events replies new wire are begins h)
