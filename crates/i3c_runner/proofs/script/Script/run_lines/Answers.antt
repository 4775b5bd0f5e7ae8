use Rattle.std.proofs.Common.{◌≡◌, ◌∙◌, ◌-◌, [], ◌∷◌, ◌++◌, length, take, drop, ap, append_assoc, rules, subst, sym}
use Rattle.i3c_lines.specs.Gathering.{gathered}
use Rattle.i3c_streams.specs.Outcomes.{HasNoFeed, output}
use Rattle.i3c_runner.specs.ScriptSteps.{RunStops, progress}
use Rattle.i3c_runner.proofs.ScriptRuns.{line_done, line_stops, next_line, runs_both, runs_stop, stops_before}
use Rattle.i3c_runner.proofs.script.Script.run_lines.Goals as goal

pub loop-end-preserved : goal.loop-end-preserved
loop-end-preserved g c =
    let old = output (g.W.Write.contents c.args.out.now) c.args.self.now.gathered in
    let mid = output (g.W.Write.contents c.loop-end.out) c.loop-end.self.gathered in
    let new = output (g.W.Write.contents c.run_line.new.out) c.run_line.new.self.gathered in
    let (held, (before, all, runs)) = c.loop-end.invariant in
    let line = c.split_at.result.0.now in
    let after = c.split_at.result.1.now in
    let found = c.in-Some.ensures in
    let first : line ≡ take c.in-Some.end c.loop-end.rest.now = search rules in
    let behind : after ≡ drop c.in-Some.end c.loop-end.rest.now = search rules in
    let rest = next_line c.loop-end.rest.now line after c.in-Some.end found.0 found.1 first behind in
    let one = subst HasNoFeed (sym first) found.2 in (
      ap (λ l. gathered l) c.run_line.ensures.held ∙ held,
      (
        before ++ (line ++ 10 ∷ []),
        all ∙ ap (λ bytes. before ++ bytes) rest ∙ sym (append_assoc before (line ++ 10 ∷ []) (take (length after - 1) (drop 1 after))),
        runs_both before [] (line ++ 10 ∷ []) [] old mid new (progress c.args.self.now) (progress c.loop-end.self) (progress c.run_line.new.self) runs (line_done line mid new (progress c.loop-end.self) (progress c.run_line.new.self) one c.in-Ok.ensures.ends),
      ),
    )

pub returns-in-Err-clause-runs : goal.returns-in-Err-clause-runs
returns-in-Err-clause-runs g c none =
    let old = output (g.W.Write.contents c.args.out.now) c.args.self.now.gathered in
    let mid = output (g.W.Write.contents c.loop-end.out) c.loop-end.self.gathered in
    let new = output (g.W.Write.contents c.run_line.new.out) c.run_line.new.self.gathered in
    let fault = c.in-Err.fault in
    let (held, (before, all, runs)) = c.loop-end.invariant in
    let line = c.split_at.result.0.now in
    let after = c.split_at.result.1.now in
    let found = c.in-Some.ensures in
    let first : line ≡ take c.in-Some.end c.loop-end.rest.now = search rules in
    let behind : after ≡ drop c.in-Some.end c.loop-end.rest.now = search rules in
    let rest = next_line c.loop-end.rest.now line after c.in-Some.end found.0 found.1 first behind in
    let one = subst HasNoFeed (sym first) found.2 in
    let behind_it = take (length after - 1) (drop 1 after) in
    let split = all ∙ ap (λ bytes. before ++ bytes) rest ∙ sym (append_assoc before (line ++ 10 ∷ []) behind_it) in
    subst (λ b. RunStops b old new (progress c.args.self.now) fault) (sym split)
    (stops_before (before ++ (line ++ 10 ∷ [])) behind_it old new (progress c.args.self.now) fault
    (runs_stop before [] (line ++ 10 ∷ []) old mid new (progress c.args.self.now) (progress c.loop-end.self) fault runs (line_stops fault line mid new (progress c.loop-end.self) one c.in-Err.ensures.ends)))
