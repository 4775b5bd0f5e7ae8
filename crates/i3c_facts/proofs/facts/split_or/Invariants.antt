use Rattle.i3c_facts.proofs.ClaimLaws.{IsNoOrBelow}
use Rattle.i3c_facts.proofs.facts.split_or.Given as goal

abbrev pub invariant-loop-at : goal.invariant-loop-at
invariant-loop-at l = IsNoOrBelow l.tokens l.at
