use Rattle.std.proofs.Common.{◌<◌, ◌^◌, subst}
use Rattle.std.proofs.lemmas.Bool.{false≢true}
use Rattle.i3c_facts.proofs.FactArgs.{waiting_args}
use Rattle.i3c_facts.proofs.fact_tokens.all_waiting.Goals as goal

pub returns-in_err-count : goal.returns-in_err-count
returns-in_err-count c =
    rw c.from_residual.ensures
    (λ fact form. let f = waiting_args c.args.token.now fact c.requires form in false≢true (c.in_err-count.ensures.form.1 (f.1.0, subst (λ n. n < 2 ^ 16) f.1.1 f.1.2)))
