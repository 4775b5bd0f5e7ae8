use Rattle.std.proofs.Common.{inl, inr, refl}
use Rattle.std.proofs.lemmas.Bool.{false≢true}
use Rattle.i3c_lines.proofs.Beginnings.{only_s}
use Rattle.i3c_lines.proofs.command.Command.read_other_s.Goals as goal

pub returns : goal.returns
returns c = (
  λ command form.
      elim (only_s c.args.tail.now command form) [
        | inl serve ↦ absurd (c.requires.serve serve)
        | inr (inl show) ↦ false≢true (c.if-is_token.ensures.1 show)
        | inr (inr (inl symbols)) ↦ false≢true (c.if-is_token-2.ensures.1 symbols)
        | inr (inr (inr (inl all))) ↦ false≢true (c.if-is_token-3.ensures.1 all)
        | inr (inr (inr (inr (inl from)))) ↦ c.in_default-after-3.ensures from.0 from.1
        | inr (inr (inr (inr (inr (inl static))))) ↦ absurd (c.requires.fixed static.0 static.1)
        | inr (inr (inr (inr (inr (inr (inl new)))))) ↦ c.in_default.ensures new.0 new.1
        | inr (inr (inr (inr (inr (inr (inr (inl written))))))) ↦ c.in_default-after.ensures written.0 written.1
        | inr (inr (inr (inr (inr (inr (inr (inr told))))))) ↦ c.in_default-after-2.ensures told.0 told.1
      ],
  refl,
)
