use Rattle.std.proofs.Common.{◌≡◌, ◌≢◌, ◌∙◌, ◌+◌, ◌++◌, Err, ap, min, subst, sym}
use Rattle.i3c_text.specs.declared.line_error.LineError.{LineError}
use Rattle.i3c_script.specs.Obeying.{script}
use Rattle.i3c_script.specs.Stops.{refusals}
use Rattle.i3c_runner.specs.Expecting.{Standing}
use Rattle.i3c_runner.specs.Scripts.{LineRuns}
use Rattle.i3c_runner.specs.ScriptSteps.{noted, progress, state}
use Rattle.i3c_runner.specs.Viewed.{LineRan, kept}
use Rattle.i3c_runner.proofs.ScriptRuns.{does_in, passes, refusal_in}
use Rattle.i3c_runner.proofs.ViewRuns.{in_ok, line_ran}
use Rattle.i3c_runner.proofs.viewed.ViewedRun.obey.Goals as goal

pub returns-in-Ok-settle : goal.returns-in-Ok-settle
returns-in-Ok-settle c =
    let old = c.args.self.now.script in
    let before : Standing = record (state old) { script = script c.copy_wire.new.self old.names } in
    let obeyed = c.obey-outcome.new.self in
    let outcome = c.obey-outcome.result in
    let settled = c.settle.new.self in
    let new = c.take_sent.new.self in
    let line = c.args.line.now in
    let wire = new.wire.items in
    let alive : outcome ≢ Err LineError.Memory = λ short. passes c.settle.result _ c.in-Ok-settle.is (c.settle.ensures.memory short) in
    let does = does_in before line c.clear.new.self obeyed.said.text outcome (noted (state obeyed) outcome) c.obey-outcome.ensures.reads c.clear.ensures alive in
    let stays : noted (state obeyed) outcome ≡ state settled = sym c.settle.ensures.state in
    let ran = subst (λ s. LineRuns s line obeyed.said.text (refusal_in outcome) (state settled)) (ap (λ stage. record (state old) { script = script stage old.names }) c.in-Ok.ensures.same) (subst (LineRuns before line obeyed.said.text (refusal_in outcome)) stays does) in
    let text = c.take_sent.ensures.text ∙ c.in-Ok-settle.ensures.told in
    let count = c.settle.ensures.counted ∙ ap (λ n. min (n + refusals outcome) 18446744073709551615) c.obey-outcome.ensures.refused in
    in_ok c.take_sent.result (λ sent. subst (LineRan line new.script.said.text wire (progress old)) (sym c.take_sent.ensures.state)
    (line_ran line obeyed.said.text new.script.said.text wire outcome (progress old) (progress settled) ran text (sent ∙ ap (λ symbols. kept (symbols ++ wire)) c.in-Ok.ensures.copied) count)) c.take_sent.ensures.sent
