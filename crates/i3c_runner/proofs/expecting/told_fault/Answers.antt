use Rattle.i3c_facts.proofs.MarkFaultLaws.{mark_so}
use Rattle.i3c_runner.proofs.expecting.told_fault.Goals as goal

pub returns-in-Some : goal.returns-in-Some
returns-in-Some c = mark_so c.args.line.now c.in-Some.fault c.in-Some.ensures
