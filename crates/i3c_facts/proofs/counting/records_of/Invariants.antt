use Rattle.std.proofs.Common.{◌≡◌, ◌≤◌, ◌+◌, drop}
use Rattle.i3c_facts.specs.Holding.{records_of}
use Rattle.i3c_facts.proofs.counting.records_of.Given as goal

abbrev pub invariant-loop-index : goal.invariant-loop-index
invariant-loop-index l = (l.count ≤ l.index) × (l.count + records_of l.slot l.byte (drop l.index l.records) ≡ records_of l.slot l.byte l.records)
