use Rattle.i3c_facts.proofs.ReasonLaws.{IsNoneBelow}
use Rattle.i3c_facts.proofs.reasons.plain_reason.Given as goal

abbrev pub invariant-loop-index : goal.invariant-loop-index
invariant-loop-index l = IsNoneBelow l.index l.token
