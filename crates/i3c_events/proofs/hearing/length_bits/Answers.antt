use Rattle.std.proofs.Common.{rules}
use Rattle.i3c_events.proofs.hearing.length_bits.Goals as goal

pub returns-in-Some-NoAnswer : goal.returns-in-Some-NoAnswer
returns-in-Some-NoAnswer c = search rules

pub returns-in-Some-default : goal.returns-in-Some-default
returns-in-Some-default c = search rules
