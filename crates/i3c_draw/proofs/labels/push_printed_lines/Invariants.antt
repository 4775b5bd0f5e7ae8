use Rattle.std.proofs.Common.{◌≡◌, ◌++◌, true, length}
use Rattle.i3c_draw.specs.Rows.{printed_lines}
use Rattle.i3c_draw.proofs.labels.push_printed_lines.Given as goal

-- what is left to append
abbrev pub invariant-loop-rest : goal.invariant-loop-rest
invariant-loop-rest l = l.text ++ printed_lines l.begins l.rest ≡ l.initial.text ++ printed_lines true l.fn.printed

abbrev pub decreases-loop-rest : goal.decreases-loop-rest
decreases-loop-rest l = length l.rest
