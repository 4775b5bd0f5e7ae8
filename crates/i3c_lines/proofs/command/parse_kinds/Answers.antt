use Rattle.std.proofs.Common.{◌∙◌, ap, refl, subst, sym}
use Rattle.std.proofs.lemmas.Bool.{false≢true}
use Rattle.std.specs.Option.{option_copied}
use Rattle.i3c_lines.specs.Forms.{AreAddress, tokens_of}
use Rattle.i3c_lines.specs.Parsing.{tokens_in}
use Rattle.i3c_lines.specs.Tokens.{IsHex}
use Rattle.i3c_lines.proofs.Arguments.{same_first}
use Rattle.i3c_lines.proofs.Meanings.{rest_of}
use Rattle.i3c_lines.proofs.SplitLaws.{hex_no_space, joined_tokens, split_tokens}
use Rattle.i3c_lines.proofs.command.parse_kinds.Goals as goal

pub returns-in_err-byte : goal.returns-in_err-byte
returns-in_err-byte c = rw c.from_residual.ensures (λ parts is. let split = split_tokens _ _ _ is.2 in c.in_err-byte.ensures.none refl is.0 split.0 is.3.0.0 split.1)

pub returns-in_err-kinds : goal.returns-in_err-kinds
returns-in_err-kinds c =
    rw c.from_residual-in_err-kinds.ensures
    (λ parts is.
    let split = split_tokens _ _ _ is.2 in
    let same = same_first is.0 c.in_ok-byte.byte.now split.0 _ (is.3.0.0 ∙ sym c.in_ok-byte.ensures.split.0) (sym split.1 ∙ c.in_ok-byte.ensures.split.1) in
    false≢true (c.in_err-kinds.ensures.form.1 (subst (λ w. IsHex 2 w) same is.3.0)))

pub returns-in_err-to : goal.returns-in_err-to
returns-in_err-to c =
    rw c.from_residual-in_err-to.ensures
    (λ parts is.
    let digits = c.in_ok-kinds.ensures.form.0 refl in
    let tokens = ap tokens_of c.in_ok-byte.ensures.split.1 ∙ joined_tokens c.in_ok-byte.byte.now (option_copied c.in_ok-byte.rest) (hex_no_space _ digits.1) in
    c.in_err-to.ensures parts.0 (subst (λ ws. AreAddress ws parts.0) (ap rest_of (sym is.2 ∙ tokens)) is.4))

pub returns : goal.returns
returns c =
    let digits = c.in_ok-kinds.ensures.form.0 refl in
    let tokens = ap tokens_of c.in_ok-byte.ensures.split.1 ∙ joined_tokens c.in_ok-byte.byte.now (option_copied c.in_ok-byte.rest) (hex_no_space _ digits.1) in
    (c.in_ok-byte.byte.now, tokens_in (option_copied c.in_ok-byte.rest), tokens, (digits, c.in_ok-kinds.ensures.value), c.in_ok-to.ensures)
