use Rattle.i3c_facts.proofs.Meaning.{one_mark}
use Rattle.i3c_facts.proofs.laws.lines_are_of_one_mark.Goals as goal

pub returns : goal.returns
returns c = one_mark
