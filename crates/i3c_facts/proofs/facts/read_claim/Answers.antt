use Rattle.i3c_facts.proofs.ClaimLaws.{no_claim}
use Rattle.i3c_facts.proofs.facts.read_claim.Goals as goal

pub returns-in_err-fact : goal.returns-in_err-fact
returns-in_err-fact c = rw c.from_residual.ensures (no_claim _ c.in_err-fact.ensures c.in_default.ensures)
