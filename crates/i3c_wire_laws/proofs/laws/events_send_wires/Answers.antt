-- By the cases of a step.
use Rattle.i3c_wire_laws.proofs.EventWalks.{step_leads}
use Rattle.i3c_wire_laws.proofs.RunWalks.{still_legacies}
use Rattle.i3c_wire_laws.proofs.Targets.{keeps_step}
use Rattle.i3c_wire_laws.proofs.laws.events_send_wires.Goals as goal

pub returns : goal.returns
returns c legacies old event reply wire new sound are sends =
    (step_leads legacies.0 old event reply new wire sound are sends.0 sends.1, still_legacies legacies.0 old new (keeps_step old event reply new sends.0) are)
