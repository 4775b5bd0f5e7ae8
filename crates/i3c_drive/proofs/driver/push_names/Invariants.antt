use Rattle.std.proofs.Common.{◌≡◌, ◌++◌, length}
use Rattle.i3c_drive.specs.Answers.{names_text}
use Rattle.i3c_drive.proofs.driver.push_names.Given as goal

-- the names so far, and those that are left
abbrev pub invariant-loop-rest : goal.invariant-loop-rest
invariant-loop-rest l = l.answer ++ names_text l.rest ≡ l.fn.answer ++ names_text l.fn.names

abbrev pub decreases-loop-rest : goal.decreases-loop-rest
decreases-loop-rest l = length l.rest
