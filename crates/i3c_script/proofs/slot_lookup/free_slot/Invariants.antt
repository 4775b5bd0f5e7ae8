use Rattle.i3c_script.specs.Slots.{AllPresentBelow}
use Rattle.i3c_script.proofs.slot_lookup.free_slot.Given as goal

abbrev pub invariant-loop-number : goal.invariant-loop-number
invariant-loop-number l = AllPresentBelow l.bus.state l.number
