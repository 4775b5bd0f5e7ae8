use Rattle.std.proofs.Common.{◌∙◌, ◌+◌, ◌-◌, ◌++◌, length, take, drop, ap}
use Rattle.i3c_streams.specs.Outcomes.{output}
use Rattle.i3c_runner.specs.ScriptSteps.{progress}
use Rattle.i3c_runner.proofs.ScriptRuns.{first_line, no_feed_in_both, no_line, take_both, takes_both, takes_none}
use Rattle.i3c_runner.proofs.script.Script.take_lines.Goals as goal

pub returns-in-None-clause-runs : goal.returns-in-None-clause-runs
returns-in-None-clause-runs g c begun held one =
    let bytes = c.args.bytes.now in
    (begun ++ bytes, no_line (begun ++ bytes) (output (g.W.Write.contents c.args.out.now) c.args.self.now.gathered) (progress c.args.self.now) (no_feed_in_both begun bytes one c.in-None.ensures), c.extend.ensures ∙ ap (λ l. take 257 (l ++ bytes)) held ∙ take_both 257 begun bytes)

pub returns-in-Ok-clause-runs : goal.returns-in-Ok-clause-runs
returns-in-Ok-clause-runs g c begun held one =
    let old = output (g.W.Write.contents c.args.out.now) c.args.self.now.gathered in
    let mid = output (g.W.Write.contents c.end_held_line.new.out) c.end_held_line.new.self.gathered in
    let new = output (g.W.Write.contents c.run_lines.new.out) c.run_lines.new.self.gathered in
    let bytes = c.args.bytes.now in
    let end = c.in-Some.end in
    let found = c.in-Some.ensures in
    takes_both begun bytes (take end bytes) (take (length bytes - (end + 1)) (drop (end + 1) bytes)) _ old mid new (progress c.args.self.now) (progress c.end_held_line.new.self) (progress c.run_lines.new.self) c.run_lines.result
    (first_line bytes end found.0 found.1) (c.in-Ok.ensures.runs begun held one found.2) (c.run_lines.ensures.runs c.in-Ok.ensures.held)

pub returns-in-Err-clause-runs : goal.returns-in-Err-clause-runs
returns-in-Err-clause-runs g c begun held one =
    let old = output (g.W.Write.contents c.args.out.now) c.args.self.now.gathered in
    let new = output (g.W.Write.contents c.end_held_line.new.out) c.end_held_line.new.self.gathered in
    let bytes = c.args.bytes.now in
    let end = c.in-Some.end in
    let found = c.in-Some.ensures in
    takes_none begun bytes (take end bytes) (take (length bytes - (end + 1)) (drop (end + 1) bytes)) old new (progress c.args.self.now) c.in-Err.fault
    (first_line bytes end found.0 found.1) (c.in-Err.ensures.runs begun held one found.2)
