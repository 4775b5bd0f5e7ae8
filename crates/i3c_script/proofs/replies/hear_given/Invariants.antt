use Rattle.std.proofs.Common.{◌≡◌, length}
use Rattle.i3c_script.specs.Hearing.{all_heard}
use Rattle.i3c_script.specs.Pieces.{given_pieces}
use Rattle.i3c_script.proofs.replies.hear_given.Given as goal

abbrev pub invariant-loop-rest : goal.invariant-loop-rest
invariant-loop-rest g l = all_heard g.L.Listener.heard l.listener (given_pieces l.rest) ≡ all_heard g.L.Listener.heard l.initial.listener (given_pieces l.fn.given)

abbrev pub decreases-loop-rest : goal.decreases-loop-rest
decreases-loop-rest g l = length l.rest
