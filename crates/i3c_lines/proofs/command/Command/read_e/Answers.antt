use Rattle.std.proofs.Common.{inl, inr, refl}
use Rattle.std.proofs.lemmas.Bool.{false≢true}
use Rattle.i3c_lines.proofs.Beginnings.{only_e}
use Rattle.i3c_lines.proofs.command.Command.read_e.Goals as goal

pub returns : goal.returns
returns g c = (
  λ command form.
      elim (only_e c.args.tail.now command form) [
        | inl enec ↦ c.in_default.ensures enec.0 enec.1
        | inr end ↦ false≢true (c.if-is_token.ensures.1 end)
      ],
  refl,
)
