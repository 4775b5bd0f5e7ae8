use Rattle.std.proofs.Common.{◌≡◌, length}
use Rattle.i3c_script.specs.Hearing.{all_heard}
use Rattle.i3c_script.specs.Pieces.{later_pieces}
use Rattle.i3c_script.proofs.symbols.hear_later.Given as goal

abbrev pub invariant-loop-rest : goal.invariant-loop-rest
invariant-loop-rest g l = all_heard g.L.Listener.heard l.listener (later_pieces l.rest) ≡ all_heard g.L.Listener.heard l.initial.listener (later_pieces l.fn.symbols)

abbrev pub decreases-loop-rest : goal.decreases-loop-rest
decreases-loop-rest g l = length l.rest
