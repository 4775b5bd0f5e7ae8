use Rattle.std.proofs.Common.{inl, inr, refl, rules}
use Rattle.i3c_lines.proofs.Arguments.{policy_args}
use Rattle.i3c_lines.proofs.command.Command.read_policy.Goals as goal

pub returns-in_err-kinds : goal.returns-in_err-kinds
returns-in_err-kinds c =
    rw c.from_residual.ensures (
      λ command form.
          elim (policy_args _ command form) [
            | inl alone ↦ c.in_default.ensures alone.0 alone.1
            | inr but ↦ c.in_err-kinds.ensures (but.0, but.1) but.2
          ],
      refl,
    )

pub returns : goal.returns
returns c = search rules
