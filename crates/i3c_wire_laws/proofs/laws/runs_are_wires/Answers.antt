-- The symbols lead to the end of a frame, and their numbers fit.
use Rattle.i3c_wire_laws.proofs.RunWalks.{run_wire}
use Rattle.i3c_wire_laws.proofs.laws.runs_are_wires.Goals as goal

pub returns : goal.returns
returns c legacies main board start events replies new wire are fits brings begins h outside =
    run_wire legacies.0 main board start events replies new wire are fits brings begins h outside
