use Rattle.std.proofs.Common.{◌≡◌, ◌++◌, length, map}
use Rattle.serde_json.specs.View.{view}
use Rattle.i3c_json.specs.Values.{name_data}
use Rattle.i3c_json.proofs.told.names_value.Given as goal

-- the names so far, and those that are left
abbrev pub invariant-loop-rest : goal.invariant-loop-rest
invariant-loop-rest l = map view l.values.items ++ map name_data l.rest ≡ map name_data l.fn.names

abbrev pub decreases-loop-rest : goal.decreases-loop-rest
decreases-loop-rest l = length l.rest
