use Rattle.std.proofs.Common.{◌≡◌, [], min, MatchResult, subst}
use Rattle.std.specs.Io.KnownBytes.{Appends}
use Rattle.i3c_streams.specs.Outcomes.{AppendsSome}
use Rattle.i3c_streams.specs.Faults.{IsLineFault}
use Rattle.i3c_monitor.specs.Trace.{trace_told}
use Rattle.i3c_traces.specs.Traces.{refused_in, trace_text}
use Rattle.i3c_traces.proofs.TraceOut.{fault_out, trace_out}
use Rattle.i3c_traces.proofs.trace.print_text.Goals as goal

pub returns-in-Ok-clause-lines : goal.returns-in-Ok-clause-lines
returns-in-Ok-clause-lines g c =
    let old = g.W.Write.contents c.args.writer.now in
    let new = g.W.Write.contents c.print_trace.new.out in
    let sound = c.in-Ok.ensures.sound in
    trace_out c.args.codes old new c.print_trace.result c.args.text.now c.in-Ok.symbols.items sound.0 c.in-Ok.ensures.range sound.1
    (subst (λ trace. MatchResult c.print_trace.result
    (λ tally. (tally.refused ≡ min (refused_in [] (trace_told c.args.codes trace)) 18446744073709551615) × Appends old new (trace_text c.args.codes trace []))
    (λ fault. IsLineFault fault × AppendsSome old new (trace_text c.args.codes trace []))) c.deref.ensures.value c.print_trace.ensures.told)

pub returns-in-Err-clause-lines : goal.returns-in-Err-clause-lines
returns-in-Err-clause-lines g c =
    fault_out c.args.codes (g.W.Write.contents c.args.writer.now) (g.W.Write.contents c.print_fault.new.out) c.print_fault.result c.args.text.now c.in-Err.fault
    c.in-Err.ensures.fault c.print_fault.ensures.lines c.print_fault.ensures.memory
