-- A counter is determined.
use Rattle.std.proofs.Common.{◌≡◌, ◌⊎◌, ◌∙◌, ◌<◌, ℕ, Bool, IsTrue, ap, arith, false, inl, inr, suc, sym, true, zero, refl}
use Rattle.test_every.specs.declared.counter.Ask.{Ask}
use Rattle.test_every.specs.declared.counter.Counter.{Counter}
use Rattle.test_every.specs.declared.counter.Reply.{Reply}
use Rattle.test_every.specs.declared.counter.Rules.{Rules}
use Rattle.test_every.specs.Counters.{Replies, Says}
use Rattle.test_every.proofs.laws.counters_are_determined.Goals as goal

same_counter : (one other : Counter) → one.count ≡ other.count → one ≡ other
same_counter one other same = let made : ℕ → Counter = λ n. record { count = n } in ap made same

lost_or : (b : Bool) (way : ℕ) → (IsTrue b × (0 < way)) ⊎ (IsTrue b × (0 < way) → ⊥)
lost_or false way = inr (λ lost. absurd (no lost.0))
  where
    no : IsTrue false → ⊥
    no risky = cc
lost_or true zero = inr (λ lost. omega (arith, lost.1))
lost_or true (suc way) = inl (refl, omega arith)

says_same : (old : Counter) (ask : Ask) (one other : Reply) (new next : Counter) → Says old ask one new → Says old ask other next → (one ≡ other) × (new ≡ next)
says_same old Ask.Read one other new next (told, led) (tells, leads) = (told ∙ sym tells, same_counter new next (led ∙ sym leads))
says_same old Ask.Clear one other new next (told, led) (tells, leads) = (told ∙ sym tells, same_counter new next (led ∙ sym leads))

replies_same : (rules : Rules) (old : Counter) (ask : Ask) (way : ℕ) (one other : Reply) (new next : Counter) → Replies rules old ask way one new → Replies rules old ask way other next → (one ≡ other) × (new ≡ next)
replies_same rules old ask way one other new next is its = elim (lost_or rules.risky way) [
  | inl lost ↦ (
      let (told, led) = is.0 lost in
      let (tells, leads) = its.0 lost in
      (told ∙ sym tells, same_counter new next (led ∙ sym leads))
      )
  | inr kept ↦ says_same old ask one other new next (is.1 kept) (its.1 kept)
]

pub returns : goal.returns
returns c rules = record {
  ends = λ old line way one other led leads. same_counter one other (led.0 ∙ sym leads.0);
  answer = replies_same rules;
  sight = λ state one other seen sees. seen ∙ sym sees;
}
