use Rattle.std.proofs.Common.{◌≡◌, slice_index}
use Rattle.std.specs.Int.RustNames.{bit_xor}
use Rattle.i3c_wires.proofs.KeptColumns.{Flipping}
use Rattle.i3c_wires.proofs.bit_columns.BitColumns.set.Given as goal

-- the bits that are left
abbrev pub invariant-loop-rest : goal.invariant-loop-rest
invariant-loop-rest l = record {
  numbers : l.self.numbers ≡ l.initial.self.numbers;
  any : l.self.any ≡ l.initial.self.any;
  flipping : Flipping l.initial.self.ones l.self.ones (bit_xor (slice_index l.initial.self.numbers l.index) l.number) l.rest l.index;
}

abbrev pub decreases-loop-rest : goal.decreases-loop-rest
decreases-loop-rest l = l.rest
