use Rattle.std.proofs.Common.{◌≡◌, min, sym, subst, MatchResult}
use Rattle.std.specs.Io.KnownBytes.{Appends}
use Rattle.i3c_monitor.specs.Trace.{trace_told}
use Rattle.i3c_streams.specs.Faults.{IsLineFault}
use Rattle.i3c_streams.specs.Outcomes.{AppendsSome}
use Rattle.i3c_traces.specs.Symbols.{AreTold, FramesGo}
use Rattle.i3c_traces.specs.Traces.{Goes, fault_line, refused_in, trace_text}
use Rattle.i3c_traces.proofs.LintWritten.{linted_out}
use Rattle.i3c_traces.proofs.TraceOut.{broken_out, told_out}
use Rattle.i3c_traces.proofs.frames.print_frames.Goals as goal

pub returns-in-Some-default-clause-lines : goal.returns-in-Some-default-clause-lines
returns-in-Some-default-clause-lines g c =
    let old = g.W.Write.contents c.args.writer.now in
    let new = g.W.Write.contents c.lint_frames.new.out in
    let frames = c.args.frames.now in
    let marks = c.args.marks.now in
    subst (λ legacies. FramesGo c.args.codes legacies frames marks old new c.lint_frames.result) (sym c.in-Some-default.is-0)
    (linted_out c.in-Some-default.legacies.0 frames marks old new c.lint_frames.result c.lint_frames.ensures.told)

pub returns-in-None-None-clause-lines : goal.returns-in-None-None-clause-lines
returns-in-None-None-clause-lines g c =
    let old = g.W.Write.contents c.args.writer.now in
    let new = g.W.Write.contents c.print_trace.new.out in
    let codes = c.args.codes in
    let symbols = c.args.frames.now.symbols.items in
    let marks = c.args.marks.now in
    let result = c.print_trace.result in
    let tells = subst (λ trace. MatchResult result
    (λ tally. (tally.refused ≡ min (refused_in marks (trace_told codes trace)) 18446744073709551615) × Appends old new (trace_text codes trace marks))
    (λ fault. IsLineFault fault × AppendsSome old new (trace_text codes trace marks))) c.deref.ensures.value c.print_trace.ensures.told in
    subst (λ legacies. FramesGo codes legacies c.args.frames.now marks old new result) (sym c.in-None-None.is-0)
    (subst (λ broken. Goes (AreTold codes symbols broken marks) old new result) (sym c.in-None-None.is-1) (told_out codes symbols marks old new result tells))

pub returns-in-None-Some-clause-lines : goal.returns-in-None-Some-clause-lines
returns-in-None-Some-clause-lines g c =
    let old = g.W.Write.contents c.args.writer.now in
    let new = g.W.Write.contents c.print_fault.new.out in
    let codes = c.args.codes in
    let symbols = c.args.frames.now.symbols.items in
    let marks = c.args.marks.now in
    let result = c.print_fault.result in
    let tells = subst (λ fault. MatchResult result (λ tally. (tally.refused ≡ 1) × Appends old new (fault_line fault))
    (λ stop. IsLineFault stop × AppendsSome old new (fault_line fault))) c.fault_of.ensures c.print_fault.ensures.lines in
    subst (λ legacies. FramesGo codes legacies c.args.frames.now marks old new result) (sym c.in-None-Some.is-0)
    (subst (λ broken. Goes (AreTold codes symbols broken marks) old new result) (sym c.in-None-Some.is-1) (broken_out codes symbols c.in-None-Some.broken marks old new result tells))
