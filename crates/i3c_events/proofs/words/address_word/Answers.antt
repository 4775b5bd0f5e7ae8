use Rattle.std.proofs.Common.{rules}
use Rattle.i3c_events.proofs.words.address_word.Goals as goal

pub returns-clause-byte : goal.returns-clause-byte
returns-clause-byte c = search rules
