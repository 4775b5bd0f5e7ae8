use Rattle.std.proofs.Common.{rules}
use Rattle.i3c_word.proofs.address_byte.Goals as goal

pub returns : goal.returns
returns c = search rules
