use Rattle.std.proofs.Common.{◌≡◌}
use Rattle.i3c_script.specs.Hearing.{all_heard}
use Rattle.i3c_script.specs.Pieces.{devices_pieces}
use Rattle.i3c_script.proofs.show.hear_devices.Given as goal

abbrev pub invariant-loop-number : goal.invariant-loop-number
invariant-loop-number g l = l.listener ≡ all_heard g.L.Listener.heard l.initial.listener (devices_pieces g.N.Naming.kept l.bus.state l.names l.number)
