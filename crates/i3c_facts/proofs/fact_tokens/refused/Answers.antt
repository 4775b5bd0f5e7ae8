use Rattle.i3c_facts.proofs.FactArgs.{refused_args}
use Rattle.i3c_facts.proofs.fact_tokens.refused.Goals as goal

pub returns-in_err-why : goal.returns-in_err-why
returns-in_err-why c = rw c.from_residual.ensures (λ fact form. let f = refused_args c.args.token.now fact c.requires form in c.in_err-why.ensures f.0 f.1)
