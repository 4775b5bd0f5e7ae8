use Rattle.std.proofs.Common.{◌≤◌, length, IfSome}
use Rattle.std.specs.Io.KnownBytes.{IsAtEnd}
use Rattle.i3c_streams.specs.declared.reading.TheConstants.{MOST_BYTES}
use Rattle.i3c_streams.proofs.WrittenOn.{same_out}
use Rattle.i3c_traces.specs.Traces.{IsTold}
use Rattle.i3c_traces.proofs.AsciiLaws.{read_as}
use Rattle.i3c_traces.proofs.TraceOut.{anyhow, came_out, err_keeps, not_large}
use Rattle.i3c_traces.proofs.trace.run_trace_knowing.Goals as goal

pub returns-clause-lines : goal.returns-clause-lines
returns-clause-lines g c =
    let known = g.R.Read.remaining c.args.reader.now in
    let text = c.deref.result.now in
    came_out (IsTold c.args.codes) known (g.W.Write.contents c.args.writer.now) (g.W.Write.contents c.print_text.new.writer) c.print_text.result text
    (read_as known c.in_ok-text.text.items text c.deref.ensures.value c.in_ok-text.ensures.text) c.print_text.ensures.lines

pub returns-clause-large : goal.returns-clause-large
returns-clause-large g c = not_large c.print_text.result c.print_text.ensures.faults

pub returns-clause-whole : goal.returns-clause-whole
returns-clause-whole g c = anyhow (IsAtEnd (g.R.Read.remaining c.read_text.new.reader)) c.print_text.result c.in_ok-text.ensures.whole

pub returns-clause-fits : goal.returns-clause-fits
returns-clause-fits g c =
    let known = g.R.Read.remaining c.args.reader.now in
    anyhow (IfSome known (λ bytes. length bytes ≤ MOST_BYTES)) c.print_text.result c.in_ok-text.ensures.fits

pub returns-in_err-text-clause-lines : goal.returns-in_err-text-clause-lines
returns-in_err-text-clause-lines g c =
    let old = g.W.Write.contents c.args.writer.now in
    err_keeps _ old old c.from_residual.result c.from_residual.ensures.0 (same_out old)
