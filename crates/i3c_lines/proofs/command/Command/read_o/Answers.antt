use Rattle.std.proofs.Common.{rules, refl}
use Rattle.std.proofs.lemmas.Bool.{false≢true}
use Rattle.i3c_lines.proofs.Beginnings.{only_open}
use Rattle.i3c_lines.proofs.command.Command.read_o.Goals as goal

pub returns-then-is_token : goal.returns-then-is_token
returns-then-is_token g c = search rules

pub returns : goal.returns
returns g c = (λ command form. false≢true (c.if-is_token.ensures.1 (only_open c.args.tail.now command form)), refl)
