use Rattle.std.proofs.Common.{inr}
use Rattle.i3c_traces.specs.Linted.{IsToldAs}
use Rattle.i3c_traces.proofs.AsciiLaws.{read_as}
use Rattle.i3c_traces.proofs.TraceOut.{came_out, not_large}
use Rattle.i3c_traces.proofs.explaining.run_explained_knowing.Goals as goal

pub returns-clause-lines : goal.returns-clause-lines
returns-clause-lines g c =
    let known = g.R.Read.remaining c.args.reader.now in
    let text = c.deref-2.result.now in
    came_out (IsToldAs c.args.codes c.args.legacies) known (g.W.Write.contents c.args.writer.now) (g.W.Write.contents c.print_text_as.new.writer) c.print_text_as.result text
    (read_as known c.in_ok-text.text.items text c.deref-2.ensures.value c.in_ok-text.ensures.text) c.print_text_as.ensures.lines

pub returns-clause-reasons : goal.returns-clause-reasons
returns-clause-reasons g c =
    let known = g.R.Read.remaining c.args.reader.now in
    let text = c.deref.result.now in
    inr (text, read_as known c.in_ok-text.text.items text c.deref.ensures.value c.in_ok-text.ensures.text, c.note_reasons.ensures)

pub returns-clause-large : goal.returns-clause-large
returns-clause-large g c = not_large c.print_text_as.result c.print_text_as.ensures.faults
