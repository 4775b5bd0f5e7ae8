use Rattle.std.proofs.Common.{rules}
use Rattle.i3c_lines.proofs.command.Command.names_meant.Goals as goal

pub returns-in-PolicyBut : goal.returns-in-PolicyBut
returns-in-PolicyBut c = search rules
