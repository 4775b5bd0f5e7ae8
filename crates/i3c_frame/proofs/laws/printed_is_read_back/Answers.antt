use Rattle.i3c_frame.proofs.PrintLaws.{printed_parts}
use Rattle.i3c_frame.proofs.laws.printed_is_read_back.Goals as goal

pub returns : goal.returns
returns c symbols = printed_parts symbols
