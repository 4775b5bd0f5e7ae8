use Rattle.std.proofs.Common.{◌≡◌, ◌++◌, length}
use Rattle.i3c_monitor.specs.Trace.{to_come, trace_told}
use Rattle.i3c_traces.specs.Explained.{reasons_in}
use Rattle.i3c_traces.proofs.explaining.explain_told.Given as goal

-- the reasons so far, and those to come
abbrev pub invariant-loop-decoded : goal.invariant-loop-decoded
invariant-loop-decoded l = l.text ++ reasons_in l.frame (to_come l.monitor) ≡ l.initial.text ++ reasons_in 0 (trace_told l.fn.codes l.fn.symbols)

abbrev pub decreases-loop-decoded : goal.decreases-loop-decoded
decreases-loop-decoded l = length (to_come l.monitor)
