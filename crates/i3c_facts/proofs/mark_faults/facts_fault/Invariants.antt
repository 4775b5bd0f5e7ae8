use Rattle.std.proofs.Common.{◌≡◌, ◌++◌, ℕ, List, length}
use Rattle.i3c_lines.specs.Parsing.{left_tokens}
use Rattle.i3c_facts.proofs.mark_faults.facts_fault.Given as goal

-- the tokens before were passed over
abbrev pub invariant-loop-token : goal.invariant-loop-token
invariant-loop-token l = (front : List (List ℕ)) × (left_tokens l.fn.tokens ≡ front ++ left_tokens l.tokens)

abbrev pub decreases-loop-token : goal.decreases-loop-token
decreases-loop-token l = length (left_tokens l.tokens)
