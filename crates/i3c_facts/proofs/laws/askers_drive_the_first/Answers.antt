use Rattle.i3c_facts.proofs.AskLaws.{askers_drive}
use Rattle.i3c_facts.proofs.laws.askers_drive_the_first.Goals as goal

pub returns : goal.returns
returns c = askers_drive
