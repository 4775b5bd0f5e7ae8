use Rattle.std.proofs.Common.{◌≡◌, ◌≤◌, ◌+◌, ℕ, List, ◌++◌, length, min}
use Rattle.std.specs.Io.KnownBytes.{Appends}
use Rattle.i3c_monitor.specs.Trace.{to_come, trace_told}
use Rattle.i3c_traces.specs.Traces.{lines_text, refused_in, trace_text}
use Rattle.i3c_traces.proofs.trace.print_trace.Given as goal

-- some lines went out, some are gathered, and the others are to come
abbrev pub invariant-loop-text : goal.invariant-loop-text
invariant-loop-text g l =
    (first : List ℕ) × Appends (g.W.Write.contents l.initial.out) (g.W.Write.contents l.out) first
    × (trace_text l.fn.codes l.trace l.marks ≡ first ++ (l.text ++ lines_text l.trace l.marks (to_come l.monitor)))
    × (min (refused_in l.marks (trace_told l.fn.codes l.trace)) 18446744073709551615 ≡ min (l.refused + refused_in l.marks (to_come l.monitor)) 18446744073709551615)
    × (l.refused ≤ 18446744073709551615)

abbrev pub decreases-loop-text : goal.decreases-loop-text
decreases-loop-text g l = length (to_come l.monitor)
