-- By the cases of a step.
use Rattle.i3c_wire_laws.proofs.EventRanges.{all_fit, step_fits}
use Rattle.i3c_wire_laws.proofs.FitsKept.{fits_step}
use Rattle.i3c_wire_laws.proofs.laws.events_fit.Goals as goal

pub returns : goal.returns
returns c old event reply wire new sound fits brings sends =
    (all_fit wire (step_fits old event reply new wire sound fits brings sends.0 sends.1), fits_step old event reply new brings sends.0 fits)
