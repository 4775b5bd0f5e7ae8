use Rattle.std.proofs.Common.{◌∙◌, ap, sym}
use Rattle.std.specs.Option.{option_copied}
use Rattle.i3c_lines.specs.Parsing.{tokens_in}
use Rattle.i3c_lines.proofs.LineLaws.{token_left}
use Rattle.i3c_lines.proofs.tokens.Tokens.end.Goals as goal

pub returns-in-Some : goal.returns-in-Some
returns-in-Some c = (λ e. absurd cc, λ e. absurd (token_left c.in-Some.field-0.now (sym (ap (λ rest. tokens_in (option_copied rest)) c.in-Some.is) ∙ e)))
