-- Each way behind way 1 does what that one does.
use Rattle.std.proofs.Common.{◌≡◌, ◌+◌, ◌<◌, ◌≤◌, ℕ, Bool, min, suc, zero, arith, if◌then◌else◌, inl, inr, rules, subst, sym}
use Rattle.std.proofs.lemmas.Bool.Decides.{leb_tells}
use Rattle.test_explore.specs.declared.counter.Counter.{Counter}
use Rattle.test_explore.specs.declared.counter.Line.{Line}
use Rattle.test_explore.specs.declared.counter.Line.TheVariants.{Risk, Spread}
use Rattle.test_explore.specs.Counters.{Counts, GoesQuietly}
use Rattle.test_explore.proofs.counter.CounterMachine.last_way.Goals as goal

later_way : (old new : Counter) (more way : ℕ) → Counts old (Risk more) 1 new → Counts old (Risk more) (suc way) new
later_way old new more way steps = elim (leb_tells 1 (suc way)) [
  | inl (e, _) ↦ subst (λ (b : Bool). (new.count ≡ (if b then 0 else old.count + more)) × (new.count < 1000)) (sym e) steps
  | inr (_, gt) ↦ absurd (omega (arith, gt))
]

-- a risk in a later way than 0 is noted
risk_noted : (old : Counter) (more way : ℕ) → GoesQuietly old (Risk more) 1 → GoesQuietly old (Risk more) way
risk_noted old more way (never, below) = absurd (never (omega arith))

each_way : (old : Counter) (line : Line) (more : ℕ) → line ≡ Risk more → (way : ℕ)
    → (tried : ℕ) × (tried ≤ 1) × ((new : Counter) → Counts old line tried new → Counts old line way new) × (GoesQuietly old line tried → GoesQuietly old line way)
each_way old line more is zero = (0, omega arith, λ new steps. steps, λ quiet. quiet)
each_way old line more is (suc way) = (
  1,
  omega arith,
  λ new steps. subst (λ (l : Line). Counts old l (suc way) new) (sym is) (later_way old new more way (subst (λ (l : Line). Counts old l 1 new) is steps)),
  λ quiet. subst (λ (l : Line). GoesQuietly old l (suc way)) (sym is) (risk_noted old more (suc way) (subst (λ (l : Line). GoesQuietly old l 1) is quiet)),
)

pub returns-in-Risk-clause-last : goal.returns-in-Risk-clause-last
returns-in-Risk-clause-last c = each_way c.args.self.now c.args.line.now c.in-Risk.field-0 c.in-Risk.is

-- a spread is never noted
spread_quiet : (old : Counter) (most tried way : ℕ) → min tried most ≡ min way most → GoesQuietly old (Spread most) tried → GoesQuietly old (Spread most) way
spread_quiet old most tried way same (never, below) = (λ noted. noted, omega arith)

-- in a way behind its last one a line adds as much as in that one
each_spread : (old : Counter) (line : Line) (most last : ℕ) → line ≡ Spread most → last ≡ most → (way : ℕ)
    → (tried : ℕ) × (tried ≤ last) × ((new : Counter) → Counts old line tried new → Counts old line way new) × (GoesQuietly old line tried → GoesQuietly old line way)
each_spread old line most last is same_last way =
    let same : min (min way most) most ≡ min way most = omega arith in (
      min way most,
      omega arith,
      λ new steps. subst (λ (l : Line). Counts old l way new) (sym is)
          (subst (λ (k : ℕ). (new.count ≡ old.count + k) × (new.count < 1000)) same (subst (λ (l : Line). Counts old l (min way most) new) is steps)),
      λ quiet. subst (λ (l : Line). GoesQuietly old l way) (sym is) (spread_quiet old most (min way most) way same (subst (λ (l : Line). GoesQuietly old l (min way most)) is quiet)),
    )

pub returns-in-Spread-clause-last : goal.returns-in-Spread-clause-last
returns-in-Spread-clause-last c = each_spread c.args.self.now c.args.line.now c.in-Spread.most c.from.result c.in-Spread.is (let e = c.from.ensures in search rules)
