use Rattle.std.proofs.lemmas.Fmt.{contents_after_writes}
use Rattle.i3c_script.proofs.printed.print_symbol.Goals as goal

pub returns-in-Ok : goal.returns-in-Ok
returns-in-Ok c = contents_after_writes _ (λ text. text) (λ _ _ _ t. t) _ _ _ c.in-Ok.ensures.writes
