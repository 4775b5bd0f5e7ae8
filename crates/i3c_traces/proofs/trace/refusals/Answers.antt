use Rattle.std.proofs.Common.{rules}
use Rattle.i3c_traces.proofs.trace.refusals.Goals as goal

pub returns-in-Refused : goal.returns-in-Refused
returns-in-Refused c = search rules
