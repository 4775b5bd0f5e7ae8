use Rattle.std.proofs.Common.{length}
use Rattle.i3c_facts.proofs.facts.+read_claims.Given as goal

abbrev pub decreases-read_claims : goal.decreases-read_claims
decreases-read_claims l = length l.tokens.now
