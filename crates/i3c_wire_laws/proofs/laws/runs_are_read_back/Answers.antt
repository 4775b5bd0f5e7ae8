-- A wire is read back.
use Rattle.i3c_wire_laws.proofs.RunWalks.{run_read_back}
use Rattle.i3c_wire_laws.proofs.laws.runs_are_read_back.Goals as goal

pub returns : goal.returns
returns c legacies main board start events replies new wire are fits brings begins h outside =
    run_read_back legacies main board start events replies new wire are fits brings begins h outside
