use Rattle.std.proofs.Common.{◌≡◌, ◌≢◌, ◌∙◌, ◌+◌, ◌++◌, Err, ap, min, subst, sym}
use Rattle.i3c_text.specs.declared.line_error.LineError.{LineError}
use Rattle.i3c_script.specs.Printed.{end_text}
use Rattle.i3c_script.specs.Stops.{refusals}
use Rattle.i3c_runner.specs.Scripts.{LineRuns}
use Rattle.i3c_runner.specs.ScriptSteps.{noted, progress, state}
use Rattle.i3c_runner.specs.Reasons.{cuts_on}
use Rattle.i3c_runner.specs.Watched.{IsExplainedIf, echoed, numbered_by}
use Rattle.i3c_runner.proofs.ScriptRuns.{does_in, passes, refusal_in}
use Rattle.i3c_runner.proofs.WatchRuns.{line_ran, stays_there}
use Rattle.i3c_runner.proofs.watched.WatchedRun.obey.Goals as goal

pub returns-in-Ok-show-clause-ran : goal.returns-in-Ok-show-clause-ran
returns-in-Ok-show-clause-ran c =
    let old = c.args.self.now.script in
    let obeyed = c.obey-outcome.new.self in
    let outcome = c.obey-outcome.result in
    let explained = c.explain.new.self in
    let settled = c.settle.new.self in
    let new = c.show.new.self.script in
    let line = c.args.line.now in
    let watching = c.args.self.now.watching in
    let waited = c.args.self.now.known.cuts in
    let number = c.args.number in
    let same = c.explain.ensures.script in
    let alive : outcome ≢ Err LineError.Memory = λ short. passes c.settle.result _ c.in-Ok-settle.is (c.settle.ensures.memory short) in
    let does = does_in (state old) line c.clear.new.self obeyed.said.text outcome (noted (state obeyed) outcome) c.obey-outcome.ensures.reads c.clear.ensures alive in
    let stays : noted (state obeyed) outcome ≡ state new = ap (λ s. noted (state s) outcome) (sym same) ∙ sym c.settle.ensures.state ∙ ap (λ s. state s) (sym c.show.ensures.script) in
    let text : settled.said.text ≡ obeyed.said.text ++ end_text outcome = c.in-Ok-settle.ensures.told ∙ ap (λ s. s.said.text ++ end_text outcome) same in
    let shows = c.in-Ok-show.ensures.shown ∙ ap (λ w. numbered_by w number (echoed w line ++ settled.said.text)) c.explain.ensures.watching ∙ ap (λ t. numbered_by watching number (echoed watching line ++ t)) text in
    let count : new.refused ≡ min (old.refused + refusals outcome) 18446744073709551615 =
    ap (λ s. s.refused) c.show.ensures.script ∙ c.settle.ensures.counted ∙ ap (λ s. min (s.refused + refusals outcome) 18446744073709551615) same
    ∙ ap (λ n. min (n + refusals outcome) 18446744073709551615) c.obey-outcome.ensures.refused in
    let there : (state obeyed).script ≡ (state new).script = sym (stays_there (state obeyed) outcome) ∙ ap (λ s. s.script) stays in
    let tells = subst (λ t. IsExplainedIf watching number line outcome waited (state new).script t) (sym c.show.ensures.told) (subst (λ st. IsExplainedIf watching number line outcome waited st explained.told) there c.in-Ok.ensures.told) in
    line_ran watching number line obeyed.said.text c.show.new.self.shown c.show.new.self.told outcome waited (progress old) (progress new) (subst (LineRuns (state old) line obeyed.said.text (refusal_in outcome)) stays does) alive tells shows count

pub returns-in-Ok-show-clause-knows : goal.returns-in-Ok-show-clause-knows
returns-in-Ok-show-clause-knows c on =
    let obeyed = c.obey-outcome.new.self in
    let outcome = c.obey-outcome.result in
    let stays : noted (state obeyed) outcome ≡ state c.show.new.self.script = ap (λ s. noted (state s) outcome) (sym c.explain.ensures.script) ∙ sym c.settle.ensures.state ∙ ap (λ s. state s) (sym c.show.ensures.script) in
    ap (λ k. k.cuts) c.show.ensures.known ∙ c.in-Ok.ensures.knows on ∙ ap (λ s. cuts_on s.stage) (sym (stays_there (state obeyed) outcome)) ∙ ap (λ s. cuts_on s.script.stage) stays
