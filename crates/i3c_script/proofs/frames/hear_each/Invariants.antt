use Rattle.std.proofs.Common.{◌≡◌, length}
use Rattle.std.specs.List.{flat_map}
use Rattle.i3c_script.specs.Framing.{whole_frames}
use Rattle.i3c_script.specs.Hearing.{all_heard}
use Rattle.i3c_script.specs.Pieces.{symbols_pieces}
use Rattle.i3c_script.proofs.frames.hear_each.Given as goal

abbrev pub invariant-loop-frame : goal.invariant-loop-frame
invariant-loop-frame g l =
    all_heard g.L.Listener.heard l.listener (flat_map symbols_pieces (whole_frames l.rest)) ≡ all_heard g.L.Listener.heard l.initial.listener (flat_map symbols_pieces (whole_frames l.fn.symbols))

abbrev pub decreases-loop-frame : goal.decreases-loop-frame
decreases-loop-frame g l = length (whole_frames l.rest)
