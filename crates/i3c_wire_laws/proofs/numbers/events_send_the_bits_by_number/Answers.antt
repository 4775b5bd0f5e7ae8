-- By the cases of a step.
use Rattle.i3c_wire_laws.specs.Wires.{place_in}
use Rattle.i3c_wire_laws.proofs.EventNumbers.{step_numbered}
use Rattle.i3c_wire_laws.proofs.EventWalks.{step_leads}
use Rattle.i3c_wire_laws.proofs.FrameNumbers.{begins_at_0}
use Rattle.i3c_wire_laws.proofs.Numbered.{is_inside, leads_framed}
use Rattle.i3c_wire_laws.proofs.numbers.events_send_the_bits_by_number.Goals as goal

pub returns : goal.returns
returns c legacies sda old event reply wire new sound are sends =
    let framed = leads_framed legacies.0 (place_in old) wire (place_in new) (step_leads legacies.0 old event reply new wire sound are sends.0 sends.1) in
    (begins_at_0 (is_inside (place_in old)) sda wire framed, step_numbered (is_inside (place_in old)) sda old event reply new wire framed sends.0 sends.1)
