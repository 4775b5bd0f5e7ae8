use Rattle.std.proofs.Common.{◌≡◌, ◌+◌, drop}
use Rattle.i3c_script.specs.Hearing.{all_heard}
use Rattle.i3c_script.specs.Pieces.{behind_pieces, numbered_pieces}
use Rattle.i3c_script.proofs.show.hear_records_behind.Given as goal

abbrev pub invariant-loop-index : goal.invariant-loop-index
invariant-loop-index g l =
    all_heard g.L.Listener.heard l.listener (numbered_pieces (l.forgotten + (l.index + 1)) (drop l.index l.records))
    ≡ all_heard g.L.Listener.heard l.initial.listener (behind_pieces l.count l.forgotten l.records)
