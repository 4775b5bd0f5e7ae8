use Rattle.std.proofs.Common.{rules}
use Rattle.i3c_lines.proofs.refusals.bus_token.Goals as goal

pub returns-in-ListStale : goal.returns-in-ListStale
returns-in-ListStale c = search rules
