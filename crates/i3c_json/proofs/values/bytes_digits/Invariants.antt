use Rattle.std.proofs.Common.{◌≡◌, ◌++◌, length}
use Rattle.i3c_text.specs.Hex.{bytes_text}
use Rattle.i3c_json.proofs.values.bytes_digits.Given as goal

-- the digits so far, and those of the bytes that are left
abbrev pub invariant-loop-rest : goal.invariant-loop-rest
invariant-loop-rest l = l.digits ++ bytes_text l.rest ≡ bytes_text l.fn.bytes

abbrev pub decreases-loop-rest : goal.decreases-loop-rest
decreases-loop-rest l = length l.rest
