use Rattle.std.proofs.Common.{◌≡◌, ◌∙◌, ap, inl, inr, subst, sym}
use Rattle.i3c_base.specs.declared.requests.Verdict.TheVariants.{Refuse}
use Rattle.i3c_lines.specs.Policies.{AcceptEach, IsAlone, each_kind}
use Rattle.i3c_lines.proofs.Meanings.{first_of}
use Rattle.i3c_lines.proofs.policies.policy.Goals as goal

pub returns-in_err-accept-in-None : goal.returns-in_err-accept-in-None
returns-in_err-accept-in-None c =
    rw c.from_residual-in_err-accept-in-None.ensures
    (λ policy form.
    elim form [
      | inl one ↦
          let first : one.0 ≡ c.in_ok-first.first.now = ap first_of (sym one.1 ∙ c.in_ok-first.ensures) in c.in-None.ensures policy (subst (λ token. IsAlone token policy) first one.2)
      | inr kinds ↦
          let each = subst (λ tokens. AcceptEach tokens (each_kind Refuse) policy) c.in_ok-first.ensures kinds.1 in c.in_err-accept-in-None.ensures each.0 each.1
    ])
