use Rattle.std.proofs.Common.{[]}
use Rattle.i3c_traces.specs.Linted.{AreLinted, IsLinted}
use Rattle.i3c_traces.proofs.LintWritten.{linted_out}
use Rattle.i3c_traces.proofs.TraceOut.{goes_as}
use Rattle.i3c_traces.proofs.linting.lint_text.Goals as goal

pub returns-in-Ok-clause-lines : goal.returns-in-Ok-clause-lines
returns-in-Ok-clause-lines g c =
    let old = g.W.Write.contents c.args.writer.now in
    let new = g.W.Write.contents c.lint_frames.new.out in
    let legacies = c.args.legacies.0 in
    let frames = c.in-Ok.frames in
    goes_as (AreLinted legacies frames []) (IsLinted legacies c.args.text.now) old new c.lint_frames.result
    (λ lines faults are. (frames, c.in-Ok.ensures, are)) (linted_out legacies frames [] old new c.lint_frames.result c.lint_frames.ensures.told)
