use Rattle.std.proofs.Common.{Err, subst, sym}
use Rattle.i3c_drive.specs.Steps.{Reads, position}
use Rattle.i3c_drive.proofs.Driving.{command_reads, long_reads}
use Rattle.i3c_text.specs.declared.line_error.LineError.{LineError}
use Rattle.i3c_script.specs.Obeying.{script}
use Rattle.i3c_drive.proofs.interpreter.Interpreter.obey.Goals as goal

pub returns-in-Err : goal.returns-in-Err
returns-in-Err g c =
    let old = position c.args.self.now in
    let line = c.args.line.now in
    let heard = g.L.Listener.heard in
    let listener = c.args.listener.now in
    subst (λ why. Reads heard old line listener listener (Err (LineError.Refused why)) old) (sym c.in-Err.ensures.refused.0) (long_reads heard old line listener c.in-Err.ensures.longer)

pub returns-in-Some : goal.returns-in-Some
returns-in-Some g c =
    command_reads g.L.Listener.heard (position c.args.self.now) c.args.line.now c.read.new.self c.args.listener.now c.obey_heard.new.listener c.obey_heard.result (script c.obey_heard.new.self c.obey_heard.new.names)
    (c.in-Ok-false.ensures.short, c.in-Some.ensures) c.obey_heard.ensures.obeys
