use Rattle.i3c_device.proofs.AnsweringLaws.{found_none}
use Rattle.i3c_device.proofs.answering.Answering.new.Goals as goal

pub returns-clause-found : goal.returns-clause-found
returns-clause-found c = found_none c.none.result c.none.ensures
