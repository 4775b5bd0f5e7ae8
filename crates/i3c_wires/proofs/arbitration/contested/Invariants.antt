use Rattle.std.proofs.Common.{option_copied}
use Rattle.i3c_wires.specs.Contest.{cuts_in}
use Rattle.i3c_wires.proofs.TurnLaws.{Turning}
use Rattle.std.proofs.Common.{option_copied}
use Rattle.i3c_wires.specs.Contest.{cuts_in}
use Rattle.i3c_wires.proofs.arbitration.contested.Given as goal

-- the turns that are left
abbrev pub invariant-loop-turns : goal.invariant-loop-turns
invariant-loop-turns l = Turning (cuts_in (option_copied l.cuts)) l.keys l.width l.turns l.bits l.still

abbrev pub decreases-loop-turns : goal.decreases-loop-turns
decreases-loop-turns l = l.turns
