use Rattle.std.proofs.Common.{◌∙◌, ◌∷◌, ap, codes, refl, subst, sym}
use Rattle.std.specs.Option.{option_copied}
use Rattle.i3c_lines.specs.Forms.{AreByte, tokens_of}
use Rattle.i3c_lines.specs.Naming.{letters}
use Rattle.i3c_lines.specs.Parsing.{tokens_in}
use Rattle.i3c_lines.proofs.Arguments.{raise_args}
use Rattle.i3c_lines.proofs.Meanings.{rest_of}
use Rattle.i3c_lines.proofs.SplitLaws.{joined_tokens, name_no_space, split_tokens}
use Rattle.i3c_lines.proofs.command.Command.read_raise.Goals as goal

pub returns-in_err-name : goal.returns-in_err-name
returns-in_err-name g c =
    rw c.from_residual.ensures
    (λ command form. let f = raise_args _ command form in let split = split_tokens _ _ _ f.4 in c.in_err-name.ensures.none refl f.2 split.0 f.5.0 split.1, refl)

pub returns-in_err-byte : goal.returns-in_err-byte
returns-in_err-byte g c =
    rw c.from_residual-in_err-byte.ensures (
      λ command form.
          let f = raise_args _ command form in
          let name = letters c.in_ok-name.name in
          let tokens = ap tokens_of c.in_ok-name.ensures.split ∙ joined_tokens name (option_copied c.in_ok-name.rest) (name_no_space name c.in_ok-name.ensures.name) in
          c.in_err-byte.ensures f.1 (subst (λ ws. AreByte ws f.1) (ap rest_of (sym f.4 ∙ tokens)) f.6),
      refl,
    )

pub returns : goal.returns
returns g c =
    let name = letters c.in_ok-name.name in
    let tokens = ap tokens_of c.in_ok-name.ensures.split ∙ joined_tokens name (option_copied c.in_ok-name.rest) (name_no_space name c.in_ok-name.ensures.name) in
    (name, tokens_in (option_copied c.in_ok-name.rest), ap (λ ws. codes "raise" ∷ ws) tokens, (c.in_ok-name.ensures.name, refl), c.in_ok-byte.ensures)
