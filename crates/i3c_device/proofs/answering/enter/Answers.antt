use Rattle.std.proofs.Common.{arith}
use Rattle.i3c_device.proofs.AnsweringLaws.{entered_in, entered_nowhere}
use Rattle.i3c_device.proofs.answering.enter.Goals as goal

pub returns-then-at-lt-ADDRESSES : goal.returns-then-at-lt-ADDRESSES
returns-then-at-lt-ADDRESSES c a s l m = entered_in c.args.slots.now c.args.address c.args.index c.with.result c.args.has_it (omega arith) c.with.ensures a s m

pub returns-else-at-lt-ADDRESSES : goal.returns-else-at-lt-ADDRESSES
returns-else-at-lt-ADDRESSES c a s l m = entered_nowhere c.args.slots.now c.args.address c.args.index c.args.has_it a s l (omega arith)
