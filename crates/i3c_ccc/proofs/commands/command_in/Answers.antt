use Rattle.std.proofs.Common.{refl}
use Rattle.i3c_ccc.proofs.KindLaws.{plain_command}
use Rattle.i3c_ccc.proofs.commands.command_in.Goals as goal

pub returns-in_default-code : goal.returns-in_default-code
returns-in_default-code c =
    plain_command c.args.codes c.args.words.now _ c.in-Ok.byte c.code_of-code.result c.in-len1-up.len_at_least (c.in-Ok.ensures.ok.0 refl) c.in-Ok.ensures.byte
    c.code_of-code.ensures c.in_default-code.not-Enec c.in_default-code.not-Disec
