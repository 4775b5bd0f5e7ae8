use Rattle.std.proofs.Common.{inl, inr, subst}
use Rattle.std.proofs.lemmas.Bool.{false≢true}
use Rattle.i3c_lines.specs.Forms.{IsForm, tokens_of}
use Rattle.i3c_lines.proofs.Beginnings.{becomes_other, only_l}
use Rattle.i3c_lines.proofs.command.Command.read_l.Goals as goal

pub returns : goal.returns
returns g c =
    becomes_other _ _ _ _ (λ command form.
    elim (only_l c.args.tail.now command (subst (λ line. IsForm (tokens_of line) command) c.requires form)) [
      | inl list ↦ absurd (false≢true (c.if-is_token.ensures.1 list))
      | inr other ↦ other
    ]) c.read_tokens_of.ensures
