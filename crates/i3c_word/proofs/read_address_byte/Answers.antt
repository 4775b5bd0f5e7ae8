use Rattle.std.proofs.Common.{rules}
use Rattle.i3c_word.proofs.read_address_byte.Goals as goal

pub returns-then-address_byte-byte-clause-ok : goal.returns-then-address_byte-byte-clause-ok
returns-then-address_byte-byte-clause-ok c = search rules

pub returns-else-address_byte-byte-clause-ok : goal.returns-else-address_byte-byte-clause-ok
returns-else-address_byte-byte-clause-ok c = search rules
