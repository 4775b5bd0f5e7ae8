-- In each way behind way 1 a line is lost as in that one, if lines may be lost.
use Rattle.std.proofs.Common.{◌≡◌, ◌≤◌, ℕ, IsTrue, arith, suc, zero, true, false}
use Rattle.test_every.specs.declared.counter.Ask.{Ask}
use Rattle.test_every.specs.declared.counter.Counter.{Counter}
use Rattle.test_every.specs.declared.counter.Reply.{Reply}
use Rattle.test_every.specs.declared.counter.Rules.{Rules}
use Rattle.test_every.specs.Counters.{Replies}
use Rattle.test_every.proofs.counter.CounterAnswering.last_answer.Goals as goal

lost_ways : (rules : Rules) (old : Counter) (ask : Ask) → IsTrue rules.risky → (way : ℕ) → (tried : ℕ) × (tried ≤ 1) × ((reply : Reply) (new : Counter) → Replies rules old ask tried reply new → Replies rules old ask way reply new)
lost_ways rules old ask risky zero = (0, omega arith, λ reply new is. is)
lost_ways rules old ask risky (suc way) = (1, omega arith, λ reply new is. ((λ lost. is.0 (risky, omega arith)), λ kept. absurd (kept (risky, omega arith))))

safe_ways : (rules : Rules) (old : Counter) (ask : Ask) → rules.risky ≡ false → (way : ℕ) → (tried : ℕ) × (tried ≤ 0) × ((reply : Reply) (new : Counter) → Replies rules old ask tried reply new → Replies rules old ask way reply new)
safe_ways rules old ask safe way = (0, omega arith, λ reply new is. ((λ lost. absurd (not_both lost.0)), λ kept. is.1 (λ lost. omega (arith, lost.1))))
  where
    not_both : IsTrue rules.risky → ⊥
    not_both risky = cc

pub returns-then-rules-clause-last : goal.returns-then-rules-clause-last
returns-then-rules-clause-last c = lost_ways c.args.rules.now c.args.self.now c.args._line.now c.if-rules.true

pub returns-clause-last : goal.returns-clause-last
returns-clause-last c = safe_ways c.args.rules.now c.args.self.now c.args._line.now c.if-rules.false
