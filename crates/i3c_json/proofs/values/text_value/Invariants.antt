use Rattle.std.proofs.Common.{◌≡◌, ◌++◌, length, map, string_bytes}
use Rattle.i3c_json.specs.Values.{ascii}
use Rattle.i3c_json.proofs.values.text_value.Given as goal

-- what is left to append
abbrev pub invariant-loop-rest : goal.invariant-loop-rest
invariant-loop-rest l = string_bytes l.string ++ map ascii l.rest ≡ map ascii l.fn.text

abbrev pub decreases-loop-rest : goal.decreases-loop-rest
decreases-loop-rest l = length l.rest
