-- By the numbers of the bits that a step sends.
use Rattle.i3c_wire_laws.specs.Wires.{place_in}
use Rattle.i3c_wire_laws.proofs.EventAnswers.{step_answers}
use Rattle.i3c_wire_laws.proofs.EventNumbers.{step_numbered}
use Rattle.i3c_wire_laws.proofs.EventWalks.{step_leads}
use Rattle.i3c_wire_laws.proofs.Numbered.{is_inside, leads_framed}
use Rattle.i3c_wire_laws.proofs.numbers.targets_answer_at_their_bits.Goals as goal

pub returns : goal.returns
returns c legacies sda old event reply wire new sound are sends =
    let framed = leads_framed legacies.0 (place_in old) wire (place_in new) (step_leads legacies.0 old event reply new wire sound are sends.0 sends.1) in
    step_answers sda old event reply new wire sends.0 (step_numbered (is_inside (place_in old)) sda old event reply new wire framed sends.0 sends.1)
