use Rattle.std.proofs.Common.{subst}
use Rattle.i3c_facts.specs.Forms.{AreClaims}
use Rattle.i3c_facts.proofs.ClaimLaws.{no_claims}
use Rattle.i3c_facts.proofs.facts.+read_claims.Goals as goal

pub returns-in_default : goal.returns-in_default
returns-in_default t c = λ claims are. no_claims _ _ claims c.in_default.ensures (subst (λ ps. AreClaims ps claims) c.split_or.ensures.parts are)
