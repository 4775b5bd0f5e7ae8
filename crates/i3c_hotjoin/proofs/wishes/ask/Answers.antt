use Rattle.std.proofs.Common.{rules}
use Rattle.i3c_hotjoin.proofs.wishes.ask.Goals as goal

pub returns-then-not-may_join-clause-refusal : goal.returns-then-not-may_join-clause-refusal
returns-then-not-may_join-clause-refusal c = search rules

pub returns-clause-refusal : goal.returns-clause-refusal
returns-clause-refusal c = search rules

pub returns-clause-wishes : goal.returns-clause-wishes
returns-clause-wishes c = search rules
