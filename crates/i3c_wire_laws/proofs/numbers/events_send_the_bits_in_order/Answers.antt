-- By the places that the event's symbols lead to.
use Rattle.i3c_wire_laws.specs.Wires.{place_in}
use Rattle.i3c_wire_laws.proofs.EventWalks.{step_leads}
use Rattle.i3c_wire_laws.proofs.Numbered.{leads_clocked}
use Rattle.i3c_wire_laws.proofs.numbers.events_send_the_bits_in_order.Goals as goal

pub returns : goal.returns
returns c legacies sda old event reply wire new sound are sends =
    leads_clocked legacies.0 sda (place_in old) wire (place_in new) (step_leads legacies.0 old event reply new wire sound are sends.0 sends.1)
