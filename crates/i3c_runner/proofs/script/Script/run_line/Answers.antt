use Rattle.std.proofs.Common.{◌≡◌, ◌≢◌, ◌∙◌, ◌+◌, ◌++◌, Err, ap, min, subst, sym}
use Rattle.i3c_text.specs.declared.line_error.LineError.{LineError}
use Rattle.i3c_streams.specs.Outcomes.{PutsOrFails, output}
use Rattle.i3c_script.specs.Printed.{end_text}
use Rattle.i3c_runner.specs.Scripts.{LineRuns}
use Rattle.i3c_runner.specs.ScriptSteps.{noted, progress, state}
use Rattle.i3c_script.specs.Stops.{refusals}
use Rattle.i3c_runner.proofs.ScriptRuns.{does_in, line_put, passes, refusal_in}
use Rattle.i3c_runner.proofs.script.Script.run_line.Goals as goal

pub returns-clause-ends : goal.returns-clause-ends
returns-clause-ends g c =
    let old = output (g.W.Write.contents c.args.out.now) c.args.self.now.gathered in
    let new = output (g.W.Write.contents c.gather.new.out) c.gather.new.gathered in
    let text = c.obey-outcome.new.self.said.text in
    let outcome = c.obey-outcome.result in
    let from = progress c.args.self.now in
    let to = progress c.settle.new.self in
    let alive : outcome ≢ Err LineError.Memory = λ short. passes c.settle.result _ c.in_ok-settle.was (c.settle.ensures.memory short) in
    let obeyed = does_in (state c.args.self.now) c.args.line.now c.clear.new.self text outcome (noted (state c.obey-outcome.new.self) outcome) c.obey-outcome.ensures.reads c.clear.ensures alive in
    let does = subst (LineRuns (state c.args.self.now) c.args.line.now text (refusal_in outcome)) (sym c.settle.ensures.state) obeyed in
    let same : c.as_bytes.result.now ≡ text ++ end_text outcome = c.as_bytes.ensures ∙ c.in_ok-settle.ensures.told in
    let waits : c.settle.new.self.gathered ≡ c.args.self.now.gathered = c.settle.ensures.gathered ∙ c.obey-outcome.ensures.gathered in
    line_put c.args.line.now text outcome old new from to c.gather.result does
    (c.settle.ensures.counted ∙ ap (λ n. min (n + refusals outcome) 18446744073709551615) c.obey-outcome.ensures.refused)
    (subst (λ t. PutsOrFails old new t c.gather.result) same (subst (λ w. PutsOrFails (output (g.W.Write.contents c.args.out.now) w) new c.as_bytes.result.now c.gather.result) waits c.gather.ensures.put))
