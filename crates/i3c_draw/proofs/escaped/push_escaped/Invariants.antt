use Rattle.std.proofs.Common.{◌≡◌, ◌++◌, length}
use Rattle.i3c_draw.specs.Escaped.{escaped}
use Rattle.i3c_draw.proofs.escaped.push_escaped.Given as goal

-- what is left to append
abbrev pub invariant-loop-rest : goal.invariant-loop-rest
invariant-loop-rest l = l.text ++ escaped l.rest ≡ l.initial.text ++ escaped l.fn.bytes

abbrev pub decreases-loop-rest : goal.decreases-loop-rest
decreases-loop-rest l = length l.rest
