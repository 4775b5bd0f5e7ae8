use Rattle.std.proofs.Common.{◌≡◌, ◌++◌, length}
use Rattle.std.specs.List.{flat_map}
use Rattle.i3c_wave.specs.Scripts.{string_byte}
use Rattle.i3c_wave.proofs.script_wave.push_value.Given as goal

-- what is left to append
abbrev pub invariant-loop-rest : goal.invariant-loop-rest
invariant-loop-rest l = l.text ++ flat_map string_byte l.rest ≡ l.initial.text ++ flat_map string_byte l.fn.value

abbrev pub decreases-loop-rest : goal.decreases-loop-rest
decreases-loop-rest l = length l.rest
