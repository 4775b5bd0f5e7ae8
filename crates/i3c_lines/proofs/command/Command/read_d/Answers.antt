use Rattle.std.proofs.Common.{inl, inr, subst}
use Rattle.std.proofs.lemmas.Bool.{false≢true}
use Rattle.i3c_lines.specs.Forms.{IsForm, tokens_of}
use Rattle.i3c_lines.proofs.Beginnings.{becomes_other, only_d}
use Rattle.i3c_lines.proofs.command.Command.read_d.Goals as goal

pub returns : goal.returns
returns g c =
    becomes_other _ _ _ _ (λ command form.
    elim (only_d c.args.tail.now command (subst (λ line. IsForm (tokens_of line) command) c.requires form)) [
      | inl disec ↦ absurd (c.in_default.ensures disec.0 disec.1)
      | inr (inl daa) ↦ absurd (false≢true (c.if-is_token.ensures.1 daa))
      | inr (inr other) ↦ other
    ]) c.read_tokens_of.ensures
