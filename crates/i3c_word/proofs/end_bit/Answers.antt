use Rattle.std.proofs.Common.{rules}
use Rattle.i3c_word.proofs.end_bit.Goals as goal

pub returns : goal.returns
returns c = search rules
