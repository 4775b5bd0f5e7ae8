use Rattle.std.proofs.Common.{◌≡◌, ◌∙◌, ◌++◌, take, ap, subst}
use Rattle.i3c_lines.specs.Gathering.{gathered}
use Rattle.i3c_runner.specs.ScriptSteps.{LineEnds, progress}
use Rattle.i3c_streams.specs.Outcomes.{output}
use Rattle.i3c_runner.proofs.ScriptRuns.{held_runs, take_both}
use Rattle.i3c_runner.proofs.script.Script.end_held_line.Goals as goal

pub returns-clause-runs : goal.returns-clause-runs
returns-clause-runs g c begun held one two =
    let old = output (g.W.Write.contents c.args.out.now) c.args.self.now.gathered in
    let new = output (g.W.Write.contents c.run_line.new.out) c.run_line.new.self.gathered in
    let bytes = c.args.bytes.now in
    let counted = progress c.args.self.now in
    let now = progress c.run_line.new.self in
    let line : c.as_slice.result.now ≡ take 257 (begun ++ bytes) =
    c.as_slice.ensures ∙ c.extend.ensures ∙ ap (λ l. take 257 (l ++ bytes)) (ap (λ l. gathered l) c.replace-line.ensures.value ∙ held) ∙ take_both 257 begun bytes in
    held_runs begun bytes old new counted now c.run_line.result one two (subst (λ l. LineEnds l old new counted now c.run_line.result) line c.run_line.ensures.ends)
