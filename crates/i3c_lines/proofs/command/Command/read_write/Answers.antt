use Rattle.std.proofs.Common.{◌∙◌, ◌∷◌, ap, codes, refl, subst, sym}
use Rattle.std.specs.Option.{option_copied}
use Rattle.i3c_lines.specs.Forms.{AreWritten, WritesAddress, tokens_of}
use Rattle.i3c_lines.specs.Parsing.{tokens_in}
use Rattle.i3c_lines.proofs.Arguments.{address_written, no_address, same_first, write_args}
use Rattle.i3c_lines.proofs.Meanings.{rest_of}
use Rattle.i3c_lines.proofs.SplitLaws.{hex_no_space, joined_tokens, split_tokens}
use Rattle.i3c_lines.proofs.command.Command.read_write.Goals as goal

pub returns-in_err-address : goal.returns-in_err-address
returns-in_err-address c =
    rw c.from_residual.ensures
    (λ command form. let f = write_args _ command form in let split = split_tokens _ _ _ f.4 in c.in_err-address.ensures.none refl f.2 split.0 f.5.0.0.0 split.1, refl)

pub returns-in_err-at : goal.returns-in_err-at
returns-in_err-at c =
    rw c.from_residual-in_err-at.ensures (
      λ command form.
          let f = write_args _ command form in
          let split = split_tokens _ _ _ f.4 in
          let same = same_first f.2 c.in_ok-address.address.now split.0 _ (f.5.0.0.0 ∙ sym c.in_ok-address.ensures.split.0) (sym split.1 ∙ c.in_ok-address.ensures.split.1) in
          no_address c.in_ok-address.address.now c.in_err-at.ensures.form.1 f.0 (subst (λ w. WritesAddress w f.0) same f.5),
      refl,
    )

pub returns-in_err-bytes : goal.returns-in_err-bytes
returns-in_err-bytes c =
    rw c.from_residual-in_err-bytes.ensures (
      λ command form.
          let f = write_args _ command form in
          let is = c.in_ok-at.ensures.form.0 refl in
          let tokens = ap tokens_of c.in_ok-address.ensures.split.1 ∙ joined_tokens c.in_ok-address.address.now (option_copied c.in_ok-address.rest) (hex_no_space _ is.0.1) in
          c.in_err-bytes.ensures (record { items = f.1 }) (subst (λ ws. AreWritten ws f.1) (ap rest_of (sym f.4 ∙ tokens)) f.6),
      refl,
    )

pub returns : goal.returns
returns c =
    let is = c.in_ok-at.ensures.form.0 refl in
    let tokens = ap tokens_of c.in_ok-address.ensures.split.1 ∙ joined_tokens c.in_ok-address.address.now (option_copied c.in_ok-address.rest) (hex_no_space _ is.0.1) in
    (c.in_ok-address.address.now, tokens_in (option_copied c.in_ok-address.rest), ap (λ ws. codes "write" ∷ ws) tokens, address_written c.in_ok-address.address.now _ is c.in_ok-at.ensures.value, c.in_ok-bytes.ensures)
