use Rattle.std.proofs.Common.{◌≡◌, ◌++◌, List, length}
use Rattle.i3c_orders.specs.declared.choice.Choice.{Choice}
use Rattle.i3c_orders.specs.Paths.{IsOver}
use Rattle.i3c_orders.proofs.orders.turn.Given as goal

-- the choices that were taken off have nothing left
abbrev pub invariant-loop-choice : goal.invariant-loop-choice
invariant-loop-choice g l = (over : List (Choice g.row.L.Denot g.row.S.Denot g.row.A.Denot)) × (l.initial.path.items ≡ l.path.items ++ over) × IsOver over

abbrev pub decreases-loop-choice : goal.decreases-loop-choice
decreases-loop-choice g l = length l.path.items
