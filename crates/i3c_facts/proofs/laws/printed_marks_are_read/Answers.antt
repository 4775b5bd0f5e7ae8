use Rattle.i3c_facts.proofs.PrintedMarks.{read_again}
use Rattle.i3c_facts.proofs.laws.printed_marks_are_read.Goals as goal

pub returns : goal.returns
returns c = read_again
