use Rattle.std.proofs.Common.{arith}
use Rattle.std.proofs.lemmas.Grind.{common_steps}
use Rattle.i3c_facts.proofs.FactArgs.{long_fact, no_fact}
use Rattle.i3c_facts.proofs.fact_tokens.read_fact.Goals.{in_default-via-then-tokens-lt1, in_default-via-else-tokens-lt1+else-tokens-lt2+else-tokens-lt3+else-tokens-lt4+else-tokens-lt5}
use Rattle.i3c_facts.proofs.fact_tokens.read_fact.Goals as goal

pub returns-in_default : goal.returns-in_default
returns-in_default c = λ fact is. elim c.in_default.branch [
  | in_default-via-then-tokens-lt1 w ↦ no_fact c.args.tokens.now fact (grind (arith, common_steps)) is
  | in_default-via-else-tokens-lt1+else-tokens-lt2+else-tokens-lt3+else-tokens-lt4+else-tokens-lt5 w ↦ long_fact c.args.tokens.now fact (grind (arith, common_steps)) is
]
