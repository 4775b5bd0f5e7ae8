use Rattle.std.proofs.Common.{◌≡◌, ◌++◌, length, map}
use Rattle.serde_json.specs.View.{view}
use Rattle.i3c_json.specs.Fields.{values_of}
use Rattle.i3c_json.proofs.fields.values_of.Given as goal

-- the items so far, and those of the pieces that are left
abbrev pub invariant-loop-rest : goal.invariant-loop-rest
invariant-loop-rest l = map view l.values.items ++ values_of l.fn.array l.rest ≡ values_of l.fn.array l.fn.pieces

abbrev pub decreases-loop-rest : goal.decreases-loop-rest
decreases-loop-rest l = length l.rest
