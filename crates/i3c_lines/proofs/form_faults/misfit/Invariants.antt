use Rattle.std.proofs.Common.{◌≡◌, ◌++◌, ℕ, List}
use Rattle.i3c_lines.specs.Parsing.{left_tokens}
use Rattle.i3c_lines.proofs.form_faults.misfit.Given as goal

-- the tokens before fit their fields; a policy's are read anew
abbrev pub invariant-loop-field : goal.invariant-loop-field
invariant-loop-field l =
    (front : List (List ℕ)) × (left_tokens l.fn.tokens ≡ front ++ left_tokens l.tokens) × (left_tokens l.kinds ≡ left_tokens l.fn.tokens)
