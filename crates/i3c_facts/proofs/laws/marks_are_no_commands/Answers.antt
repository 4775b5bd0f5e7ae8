use Rattle.i3c_facts.proofs.MarkLaws.{marks_apart}
use Rattle.i3c_facts.proofs.laws.marks_are_no_commands.Goals as goal

pub returns : goal.returns
returns c = marks_apart
