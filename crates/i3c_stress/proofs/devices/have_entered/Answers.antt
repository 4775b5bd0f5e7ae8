use Rattle.std.proofs.Common.{◌≡◌, ◌∙◌, ◌<◌, ◌+◌, ℕ, arith, inl, inr, rules, subst, sym, true}
use Rattle.std.proofs.lemmas.Bool.{cases_lt}
use Rattle.i3c_stress.specs.Devices.{HasEntered}
use Rattle.i3c_stress.proofs.devices.have_entered.Goals as goal

pub loop-index-preserved : goal.loop-index-preserved
loop-index-preserved c = λ slot above below.
    let holds : c.is_entrance.result ≡ true = search rules in
    let at = sym c.in-Ok-Some.ensures ∙ c.in-Ok-Some.field-0-is in
    elim (cases_lt slot (c.loop-index.index + 1)) [
      | inl before ↦ c.loop-index.invariant slot above before
      | inr last ↦
          let same : c.from-in-Ok-Some.result + 1 ≡ slot = omega (arith, last, below, c.from-in-Ok-Some.ensures) in
          subst (λ k. HasEntered k c.args.run.now.entries) same (c.from.result, c.in-Ok-Some.entry, at, c.is_entrance.ensures holds)
    ]
