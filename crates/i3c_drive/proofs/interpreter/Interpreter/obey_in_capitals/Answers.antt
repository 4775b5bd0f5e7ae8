use Rattle.std.proofs.Common.{◌≡◌, ◌∙◌, ◌++◌, ap, subst, sym}
use Rattle.i3c_drive.specs.Steps.{position}
use Rattle.i3c_lines.specs.Capitals.{in_capitals}
use Rattle.i3c_lines.specs.Forms.{IsForm, tokens_of}
use Rattle.i3c_drive.proofs.Driving.{capitals_read, formless_reads}
use Rattle.i3c_script.specs.Obeying.{script}
use Rattle.i3c_drive.proofs.interpreter.Interpreter.obey_in_capitals.Goals as goal

pub returns-in-Some : goal.returns-in-Some
returns-in-Some g c =
    let line = c.args.line.now in
    let capitals : c.as_bytes.result.now ≡ in_capitals line = c.as_bytes.ensures ∙ c.in-Ok.ensures ∙ ap (λ t. t ++ in_capitals line) c.clear.ensures in
    capitals_read g.L.Listener.heard (position c.args.self.now) line c.read.new.self c.args.listener.now c.obey_heard.new.listener c.obey_heard.result (script c.obey_heard.new.self c.obey_heard.new.names) c.requires.short c.requires.formless
    (subst (λ t. IsForm (tokens_of t) c.read.new.self) capitals c.in-Some.ensures) c.obey_heard.ensures.obeys

pub returns-in-None : goal.returns-in-None
returns-in-None g c =
    let line = c.args.line.now in
    let capitals : c.as_bytes.result.now ≡ in_capitals line = c.as_bytes.ensures ∙ c.in-Ok.ensures ∙ ap (λ t. t ++ in_capitals line) c.clear.ensures in
    formless_reads g.L.Listener.heard (position c.args.self.now) line c.args.listener.now c.requires.short c.requires.formless (λ command form. c.in-None.ensures.0 command (subst (λ t. IsForm (tokens_of t) command) (sym capitals) form))
