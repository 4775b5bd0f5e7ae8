use Rattle.std.proofs.Common.{codes}
use Rattle.i3c_monitor.specs.Lines.{number_text}
use Rattle.i3c_traces.specs.Linted.{cause_text}
use Rattle.i3c_traces.proofs.LintWritten.{three}
use Rattle.i3c_traces.proofs.linting.push_break.Goals as goal

pub returns : goal.returns
returns c =
    let broken = c.args.broken.now in
    three c.push_cause.result c.args.text.now (number_text (codes "frame ") broken.frame) (number_text (codes ": symbol ") broken.symbol) (cause_text broken)
    c.push_number.new.text c.push_number-2.new.text c.push_cause.new.text c.in_ok-push_number.ensures c.in_ok-push_number-2.ensures c.push_cause.ensures
