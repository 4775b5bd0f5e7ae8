use Rattle.std.proofs.Common.{rules}
use Rattle.i3c_handoff.proofs.wire.tell_offer.Goals as goal

pub returns-in-Torn : goal.returns-in-Torn
returns-in-Torn g c = search rules
