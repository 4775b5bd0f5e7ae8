use Rattle.std.proofs.Common.{◌∙◌, Ok, ap, refl, subst}
use Rattle.i3c_streams.specs.declared.faults.ScriptFault.{ScriptFault}
use Rattle.i3c_runner.specs.ScriptSteps.{progress}
use Rattle.i3c_runner.specs.Watched.{KnowsCuts, LineFails, LineWatched}
use Rattle.i3c_runner.proofs.WatchRuns.{all_watched, none_watched, one_watched, watched_ends, watched_stops}
use Rattle.i3c_runner.proofs.watched.WatchedRun.run_all.Goals as goal

pub loop-number-init : goal.loop-number-init
loop-number-init g c = record {
  same = refl;
  knows = c.requires.knows;
  so_far = none_watched g.T.Witness.hears c.args.self.now.watching (g.R.Read.remaining c.args.reader.now) c.args.witness.now (g.W.Write.contents c.args.out.now) c.new-lines.result (progress c.args.self.now.script)
      c.new-lines.ensures.given c.new-lines.ensures.bytes c.new-lines.ensures.reading;
}

pub returns-in-Ok-false-clause-runs : goal.returns-in-Ok-false-clause-runs
returns-in-Ok-false-clause-runs g c =
    let known = g.R.Read.remaining c.args.reader.now in
    let so_far = c.loop-number.invariant.so_far in
    let out = c.in-Ok-false.ensures.ended (ap Ok c.in-Ok-false.field-0-test) in
    all_watched g.T.Witness.hears c.args.self.now.watching known c.args.witness.now (g.R.Read.remaining c.loop-number.reader) (g.R.Read.remaining c.advance.new.reader) (g.W.Write.contents c.args.out.now) (g.W.Write.contents c.loop-number.out)
    c.loop-number.witness c.loop-number.lines c.advance.new.self (progress c.args.self.now.script) (progress c.loop-number.self.script) c.loop-number.number so_far out.0 out.1 (c.in-Ok-false.ensures.read known so_far.read)

pub returns-in-Err-clause-runs : goal.returns-in-Err-clause-runs
returns-in-Err-clause-runs g c =
    watched_stops g.T.Witness.hears c.args.self.now.watching (g.R.Read.remaining c.args.reader.now) c.args.witness.now (g.R.Read.remaining c.loop-number.reader) (g.W.Write.contents c.args.out.now) (g.W.Write.contents c.loop-number.out)
    c.loop-number.witness c.loop-number.lines (progress c.args.self.now.script) (progress c.loop-number.self.script) c.loop-number.number c.in-Err.fault c.loop-number.invariant.so_far

pub returns-clause-runs : goal.returns-clause-runs
returns-clause-runs g c =
    watched_stops g.T.Witness.hears c.args.self.now.watching (g.R.Read.remaining c.args.reader.now) c.args.witness.now (g.R.Read.remaining c.loop-number.reader) (g.W.Write.contents c.args.out.now) (g.W.Write.contents c.loop-number.out)
    c.loop-number.witness c.loop-number.lines (progress c.args.self.now.script) (progress c.loop-number.self.script) c.loop-number.number ScriptFault.Memory c.loop-number.invariant.so_far

pub returns-in-Err-run_line-clause-runs : goal.returns-in-Err-run_line-clause-runs
returns-in-Err-run_line-clause-runs g c =
    let watching = c.args.self.now.watching in
    let known = g.R.Read.remaining c.args.reader.now in
    let mid = g.W.Write.contents c.loop-number.out in
    let new = g.W.Write.contents c.run_line.new.out in
    let from = progress c.loop-number.self.script in
    let waited = c.loop-number.self.known.cuts in
    let number = c.loop-number.number in
    let fault = c.in-Err-run_line.fault in
    let so_far = c.loop-number.invariant.so_far in
    let gives = c.in-Ok-true.ensures.line (ap Ok c.in-Ok-true.field-0-test) in
    let ends = c.in-Err-run_line.ensures.ends in
    let fails = subst (λ w. LineFails w number c.line.result.now waited mid new from fault) c.loop-number.invariant.same ends.1 in
    watched_ends g.T.Witness.hears watching known c.args.witness.now (g.R.Read.remaining c.loop-number.reader) (g.R.Read.remaining c.advance.new.reader) (g.W.Write.contents c.args.out.now) mid new c.loop-number.witness c.run_line.new.witness
    c.loop-number.lines c.advance.new.self (progress c.args.self.now.script) from number waited fault so_far gives (c.in-Ok-true.ensures.read known so_far.read) c.loop-number.invariant.knows ends.0
    (subst (λ line. LineFails watching number line waited mid new from fault) c.line.ensures fails)

pub loop-number-preserved : goal.loop-number-preserved
loop-number-preserved g c =
    let watching = c.args.self.now.watching in
    let known = g.R.Read.remaining c.args.reader.now in
    let mid = g.W.Write.contents c.loop-number.out in
    let new = g.W.Write.contents c.run_line.new.out in
    let told = c.loop-number.witness in
    let after = c.run_line.new.witness in
    let from = progress c.loop-number.self.script in
    let to = progress c.run_line.new.self.script in
    let waited = c.loop-number.self.known.cuts in
    let number = c.loop-number.number in
    let hears = g.T.Witness.hears in
    let so_far = c.loop-number.invariant.so_far in
    let gives = c.in-Ok-true.ensures.line (ap Ok c.in-Ok-true.field-0-test) in
    let done = subst (λ w. LineWatched hears w number c.line.result.now waited mid new told after from to) c.loop-number.invariant.same c.in-Ok.ensures.ends in
    record {
      same = c.run_line.ensures.watching ∙ c.loop-number.invariant.same;
      knows = subst (λ w. KnowsCuts w c.run_line.new.self.known.cuts c.run_line.new.self.script.stage) c.loop-number.invariant.same c.in-Ok.ensures.knows;
      so_far = one_watched hears watching known c.args.witness.now (g.R.Read.remaining c.loop-number.reader) (g.R.Read.remaining c.advance.new.reader) (g.W.Write.contents c.args.out.now) mid new told after c.loop-number.lines c.advance.new.self
          (progress c.args.self.now.script) from to number waited so_far gives (c.in-Ok-true.ensures.read known so_far.read) c.loop-number.invariant.knows
          (subst (λ line. LineWatched hears watching number line waited mid new told after from to) c.line.ensures done);
    }
