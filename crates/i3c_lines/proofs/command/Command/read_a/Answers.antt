use Rattle.std.proofs.Common.{inl, inr, subst}
use Rattle.i3c_lines.specs.Forms.{IsForm, tokens_of}
use Rattle.i3c_lines.proofs.Beginnings.{becomes_other, only_a}
use Rattle.i3c_lines.proofs.command.Command.read_a.Goals as goal

pub returns : goal.returns
returns g c =
    becomes_other _ _ _ _ (λ command form.
    elim (only_a c.args.tail.now command (subst (λ line. IsForm (tokens_of line) command) c.requires form)) [
      | inl acts ↦ absurd (c.in_default.ensures acts.0 acts.1)
      | inr other ↦ other
    ]) c.read_tokens_of.ensures
