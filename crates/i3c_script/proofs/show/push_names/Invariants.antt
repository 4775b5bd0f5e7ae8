use Rattle.std.proofs.Common.{◌≡◌, ◌++◌}
use Rattle.i3c_script.specs.Pieces.{askers_below}
use Rattle.i3c_script.proofs.Asked.{AreLeft}
use Rattle.i3c_script.proofs.show.push_names.Given as goal

-- the slots before were printed, and those from this one on are left
abbrev pub invariant-loop-number : goal.invariant-loop-number
invariant-loop-number g l = (l.askers.items ≡ l.initial.askers.items ++ askers_below l.bus.state (g.N.Naming.kept.in_slot l.names) l.request l.number) × AreLeft l.bus.state l.request l.number l.left
