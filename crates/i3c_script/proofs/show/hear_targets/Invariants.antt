use Rattle.std.proofs.Common.{◌≡◌}
use Rattle.i3c_script.specs.Hearing.{all_heard}
use Rattle.i3c_script.specs.Pieces.{targets_pieces}
use Rattle.i3c_script.proofs.show.hear_targets.Given as goal

abbrev pub invariant-loop-number : goal.invariant-loop-number
invariant-loop-number g l = l.listener ≡ all_heard g.L.Listener.heard l.initial.listener (targets_pieces g.N.Naming.kept l.names l.number)
