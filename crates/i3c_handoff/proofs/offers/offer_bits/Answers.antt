use Rattle.std.proofs.Common.{rules}
use Rattle.i3c_handoff.proofs.offers.offer_bits.Goals as goal

pub returns-in-Torn : goal.returns-in-Torn
returns-in-Torn c = search rules
