use Rattle.std.proofs.Common.{◌≡◌, ◌≤◌, ◌+◌, ℕ, List, ◌++◌, min}
use Rattle.std.specs.Io.KnownBytes.{Appends}
use Rattle.i3c_monitor.specs.LintLines.{lint_text}
use Rattle.i3c_monitor.specs.Linting.{left, to_come}
use Rattle.i3c_traces.specs.Linted.{all_faults, break_text, breaks, frames_faults, frames_text}
use Rattle.i3c_traces.proofs.linting.lint_frames.Given as goal

-- some lines went out, some are gathered, and the others are to come
abbrev pub invariant-loop-text : goal.invariant-loop-text
invariant-loop-text g l =
    (first : List ℕ) × Appends (g.W.Write.contents l.initial.out) (g.W.Write.contents l.out) first
    × (frames_text l.fn.legacies.0 l.frames l.marks ≡ first ++ (l.text ++ (lint_text l.frames.symbols.items l.marks (to_come l.linter) ++ break_text l.frames.broken)))
    × (min (frames_faults l.fn.legacies.0 l.frames l.marks) 18446744073709551615 ≡ min (l.refused + (all_faults l.marks (to_come l.linter) + breaks l.frames.broken)) 18446744073709551615)
    × (l.refused ≤ 18446744073709551615)

abbrev pub decreases-loop-text : goal.decreases-loop-text
decreases-loop-text g l = left l.linter
