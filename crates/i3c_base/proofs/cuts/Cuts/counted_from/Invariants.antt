-- The bits before the index are counted from the later bit.
use Rattle.std.proofs.Common.{◌≡◌, ◌-◌, ◌++◌, take, drop, length}
use Rattle.std.specs.Prelude.{map}
use Rattle.i3c_base.specs.declared.range.TheConstants.{SLOTS}
use Rattle.i3c_base.proofs.cuts.Cuts.counted_from.Given as goal

abbrev pub invariant-loop-bit : goal.invariant-loop-bit
invariant-loop-bit l = record {
  long : length l.bit-items ≡ SLOTS;
  counted : l.bit-items ≡ map (λ n. n - l.fn.first) (take l.bit-index l.initial.bit-items) ++ drop l.bit-index l.initial.bit-items;
}
