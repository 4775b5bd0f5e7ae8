use Rattle.std.proofs.Common.{◌≡◌, ◌⊎◌, Ok, ap, inl, subst}
use Rattle.i3c_runner.specs.ScriptSteps.{progress}
use Rattle.i3c_runner.specs.Viewed.{LineFailed, LineViewed}
use Rattle.i3c_runner.proofs.ViewRuns.{all_viewed, one_viewed, viewed_ends, viewed_stops}
use Rattle.i3c_runner.proofs.viewed.ViewedRun.run_all.Goals as goal

pub returns-in-Ok-false-clause-runs : goal.returns-in-Ok-false-clause-runs
returns-in-Ok-false-clause-runs g c =
    let known = g.R.Read.remaining c.args.reader.now in
    let so_far = c.loop.invariant in
    let out = c.in-Ok-false.ensures.ended (ap Ok c.in-Ok-false.field-0-test) in
    all_viewed g.V.Viewer.view_gives known (g.R.Read.remaining c.loop.reader) (g.R.Read.remaining c.advance.new.reader) c.loop.lines c.advance.new.self c.args.viewer.now c.loop.viewer
    (progress c.args.self.now.script) (progress c.loop.self.script) so_far out.0 out.1 (c.in-Ok-false.ensures.read known so_far.read)

pub returns-in-Err-clause-runs : goal.returns-in-Err-clause-runs
returns-in-Err-clause-runs g c =
    inl (viewed_stops g.V.Viewer.view_gives (g.R.Read.remaining c.args.reader.now) (g.R.Read.remaining c.loop.reader) c.loop.lines c.args.viewer.now c.loop.viewer (progress c.args.self.now.script) (progress c.loop.self.script) c.loop.invariant)

pub returns-clause-runs : goal.returns-clause-runs
returns-clause-runs g c =
    inl (viewed_stops g.V.Viewer.view_gives (g.R.Read.remaining c.args.reader.now) (g.R.Read.remaining c.loop.reader) c.loop.lines c.args.viewer.now c.loop.viewer (progress c.args.self.now.script) (progress c.loop.self.script) c.loop.invariant)

pub returns-in-Err-run_line-clause-runs : goal.returns-in-Err-run_line-clause-runs
returns-in-Err-run_line-clause-runs g c =
    let known = g.R.Read.remaining c.args.reader.now in
    let so_far = c.loop.invariant in
    let mid = c.loop.viewer in
    let new = c.run_line.new.viewer in
    let at = progress c.loop.self.script in
    let fault = c.in-Err-run_line.fault in
    let line = c.in-Ok-true.ensures.line (ap Ok c.in-Ok-true.field-0-test) in
    viewed_ends g.V.Viewer.view_gives g.V.Viewer.view_fails known (g.R.Read.remaining c.loop.reader) (g.R.Read.remaining c.advance.new.reader) c.loop.lines c.advance.new.self c.args.viewer.now mid new
    (progress c.args.self.now.script) at fault so_far line (c.in-Ok-true.ensures.read known so_far.read)
    (subst (λ line. (new ≡ mid) ⊎ LineFailed g.V.Viewer.view_fails line mid new at fault) c.line.ensures c.in-Err-run_line.ensures)

pub loop-preserved : goal.loop-preserved
loop-preserved g c =
    let gives = g.V.Viewer.view_gives in
    let known = g.R.Read.remaining c.args.reader.now in
    let from = progress c.loop.self.script in
    let to = progress c.run_line.new.self.script in
    let so_far = c.loop.invariant in
    let line = c.in-Ok-true.ensures.line (ap Ok c.in-Ok-true.field-0-test) in
    one_viewed gives known (g.R.Read.remaining c.loop.reader) (g.R.Read.remaining c.advance.new.reader) c.loop.lines c.advance.new.self c.args.viewer.now c.loop.viewer c.run_line.new.viewer
    (progress c.args.self.now.script) from to so_far line (c.in-Ok-true.ensures.read known so_far.read)
    (subst (λ line. LineViewed gives line c.loop.viewer c.run_line.new.viewer from to) c.line.ensures c.in-Ok.ensures)
