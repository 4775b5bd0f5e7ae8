-- Each way does what one of those up to the last one does.
use Rattle.std.proofs.Common.{ℕ, ◌≤◌, subst, sym}
use Rattle.i3c_scene.proofs.Late.{line_late}
use Rattle.i3c_scene.proofs.machine.SceneMachine.last_way.Goals as goal

pub returns-clause-last : goal.returns-clause-last
returns-clause-last c way =
    let (tried, le, leads, quiet) = line_late c.args.self.now c.args.line.now way in
    (tried, subst (λ (n : ℕ). tried ≤ n) (sym c.latest_of_line.ensures.way) le, leads, quiet)
