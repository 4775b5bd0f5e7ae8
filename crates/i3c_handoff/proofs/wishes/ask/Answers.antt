use Rattle.std.proofs.Common.{rules}
use Rattle.i3c_handoff.proofs.wishes.ask.Goals as goal

pub returns-clause-refusal : goal.returns-clause-refusal
returns-clause-refusal c = search rules

pub returns-then-is_none-clause-refusal : goal.returns-then-is_none-clause-refusal
returns-then-is_none-clause-refusal c = search rules

pub returns-then-not-capable-clause-refusal : goal.returns-then-not-capable-clause-refusal
returns-then-not-capable-clause-refusal c = search rules
