use Rattle.std.proofs.Common.{rules}
use Rattle.i3c_handoff.proofs.roles.give.Goals as goal

pub returns-clause-held : goal.returns-clause-held
returns-clause-held c = search rules

pub returns-clause-kept : goal.returns-clause-kept
returns-clause-kept c = search rules
