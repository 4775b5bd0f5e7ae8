use Rattle.i3c_wires.proofs.ColumnLaws.{SlotsLeft}
use Rattle.i3c_wires.proofs.masks.slots_at.Given as goal

-- the slots at the places so far
abbrev pub invariant-loop-rest : goal.invariant-loop-rest
invariant-loop-rest l = SlotsLeft l.keys l.fn.places l.passed l.rest l.slots.items

abbrev pub decreases-loop-rest : goal.decreases-loop-rest
decreases-loop-rest l = l.rest
