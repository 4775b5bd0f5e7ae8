use Rattle.std.proofs.Common.{inl, inr, refl}
use Rattle.std.proofs.lemmas.Bool.{false≢true}
use Rattle.i3c_lines.proofs.Beginnings.{only_r}
use Rattle.i3c_lines.proofs.command.Command.read_r.Goals as goal

pub returns : goal.returns
returns g c = (
  λ command form.
      elim (only_r c.args.tail.now command form) [
        | inl raise ↦ c.in_default.ensures raise.0 raise.1
        | inr (inl read) ↦ c.in_default-after.ensures read.0 read.1
        | inr (inr (inl reset)) ↦ false≢true (c.if-is_token.ensures.1 reset)
        | inr (inr (inr round)) ↦ false≢true (c.if-is_token-2.ensures.1 round)
      ],
  refl,
)
