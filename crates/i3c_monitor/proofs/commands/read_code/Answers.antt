use Rattle.std.proofs.Common.{◌∙◌, sym}
use Rattle.i3c_monitor.proofs.CodeLaws.{code_comes}
use Rattle.i3c_monitor.proofs.commands.read_code.Goals as goal

pub returns : goal.returns
returns c = code_comes c.args.codes c.args.symbols.now c.args.before c.in_ok-written_byte.field-0 c.code_of-code.result c.read_command.result c.in-len1-up.len_at_least (sym c.written_byte.ensures ∙ c.in_ok-written_byte.was) c.code_of-code.ensures c.read_command.ensures
