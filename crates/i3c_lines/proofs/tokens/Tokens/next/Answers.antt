use Rattle.std.proofs.Common.{◌∙◌, ap, sym}
use Rattle.std.specs.Option.{option_copied}
use Rattle.i3c_lines.specs.Parsing.{tokens_in}
use Rattle.i3c_lines.proofs.LineLaws.{last_token, token_to_space}
use Rattle.i3c_lines.proofs.tokens.Tokens.next.Goals as goal

pub returns-in-Some : goal.returns-in-Some
returns-in-Some c = ap (λ rest. tokens_in (option_copied rest)) c.in_ok-rest.was ∙ token_to_space _ c.in-Some.end (sym c.in-Some.ensures)

pub returns-in-None : goal.returns-in-None
returns-in-None c = ap (λ rest. tokens_in (option_copied rest)) c.in_ok-rest.was ∙ last_token _ (sym c.in-None.ensures)
