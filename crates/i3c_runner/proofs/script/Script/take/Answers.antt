use Rattle.std.proofs.Common.{◌++◌, subst}
use Rattle.i3c_lines.specs.Gathering.{gathered}
use Rattle.i3c_streams.specs.Outcomes.{GoesLast, output, written}
use Rattle.i3c_runner.specs.ScriptSteps.{Takes, progress}
use Rattle.i3c_runner.proofs.ScriptRuns.{takes_flushed}
use Rattle.i3c_runner.proofs.script.Script.take.Goals as goal

pub returns-clause-runs : goal.returns-clause-runs
returns-clause-runs g c begun held one =
    let old = g.W.Write.contents c.args.out.now in
    let mid = g.W.Write.contents c.take_lines-outcome.new.out in
    let new = g.W.Write.contents c.write_last.new.out in
    let waits = c.take_lines-outcome.new.self.gathered in
    let outcome = c.take_lines-outcome.result in
    let line = gathered c.take_lines-outcome.new.self.line in
    let now = progress c.take_lines-outcome.new.self in
    takes_flushed (begun ++ c.args.bytes.now) line (written old) (output mid waits) new (progress c.args.self.now) now outcome c.write_last.result
    (subst (λ w. Takes (begun ++ c.args.bytes.now) line (output old w) (output mid waits) (progress c.args.self.now) now outcome) c.clear.ensures (c.take_lines-outcome.ensures.runs begun held one))
    (subst (λ w. GoesLast mid new w outcome c.write_last.result) c.as_bytes.ensures c.write_last.ensures)
