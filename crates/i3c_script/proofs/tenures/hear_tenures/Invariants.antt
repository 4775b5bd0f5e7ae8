use Rattle.std.proofs.Common.{◌≡◌}
use Rattle.i3c_script.specs.Hearing.{all_heard}
use Rattle.i3c_script.specs.Pieces.{pasts_pieces}
use Rattle.i3c_script.specs.Tenures.{began_at}
use Rattle.i3c_script.proofs.tenures.hear_tenures.Given as goal

-- the times so far were heard, and the next one began where the last of them ended
abbrev pub invariant-loop-index : goal.invariant-loop-index
invariant-loop-index g l = (l.listener ≡ all_heard g.L.Listener.heard l.initial.listener (pasts_pieces l.ended l.index)) × (l.from ≡ began_at l.ended l.index)
