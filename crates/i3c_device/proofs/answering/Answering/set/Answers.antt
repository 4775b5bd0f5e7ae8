use Rattle.std.proofs.Common.{arith, refl}
use Rattle.i3c_device.proofs.AnsweringLaws.{found_set}
use Rattle.i3c_device.proofs.answering.Answering.set.Goals as goal

pub returns-clause-found : goal.returns-clause-found
returns-clause-found c are = found_set c.args.self.now _ c.enter.new.slots c.args.index c.args.address c.requires refl (omega arith) c.enter.ensures c.enter-2.ensures are
