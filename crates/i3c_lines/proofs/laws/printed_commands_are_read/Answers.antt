use Rattle.i3c_lines.proofs.PrintedForms.{printed_is_read}
use Rattle.i3c_lines.proofs.laws.printed_commands_are_read.Goals as goal

pub returns : goal.returns
returns c command has = printed_is_read command has
