-- A line is tried in ways that stand for its own.
use Rattle.i3c_explore.specs.declared.ran.Ran.{Ran}
use Rattle.i3c_scene.proofs.Outcomes.{breaks_of, comes_of, leads_of}
use Rattle.i3c_scene.proofs.machine.SceneMachine.run.Goals as goal

pub returns-clause-leads : goal.returns-clause-leads
returns-clause-leads c = leads_of c.args.self.now c.wake_to.new.self.live.value c.args.line.now c.args.way c.ways_of_line-tried.result c.tried.result c.tried.new.self.live.value c.in_ok-wake_to.ensures c.ways_of_line-tried.ensures.ways c.tried.ensures.tried

pub returns-clause-broken : goal.returns-clause-broken
returns-clause-broken c = breaks_of c.args.self.now c.wake_to.new.self.live.value c.args.line.now c.args.way c.ways_of_line-tried.result c.tried.result c.tried.new.self.live.value c.in_ok-wake_to.ensures c.ways_of_line-tried.ensures.ways c.tried.ensures.tried

pub returns-clause-noted : goal.returns-clause-noted
returns-clause-noted c = comes_of Ran.Noted c.args.self.now c.wake_to.new.self.live.value c.args.line.now c.args.way c.ways_of_line-tried.result c.tried.result c.tried.new.self.live.value c.in_ok-wake_to.ensures c.ways_of_line-tried.ensures.ways c.tried.ensures.tried

pub returns-clause-quiet : goal.returns-clause-quiet
returns-clause-quiet c = comes_of Ran.Held c.args.self.now c.wake_to.new.self.live.value c.args.line.now c.args.way c.ways_of_line-tried.result c.tried.result c.tried.new.self.live.value c.in_ok-wake_to.ensures c.ways_of_line-tried.ensures.ways c.tried.ensures.tried
