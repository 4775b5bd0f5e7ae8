use Rattle.i3c_orders.proofs.Numbering.{written_read}
use Rattle.i3c_orders.proofs.laws.written_numbers_are_read.Goals as goal

pub returns : goal.returns
returns c = written_read
