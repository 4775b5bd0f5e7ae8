use Rattle.std.proofs.Common.{◌≡◌, ◌∙◌, ◌∷◌, ap, arith, length, refl, subst, sym}
use Rattle.std.specs.Option.{option_copied}
use Rattle.i3c_lines.specs.Forms.{WritesAddress, tokens_of}
use Rattle.i3c_lines.specs.Parsing.{tokens_in}
use Rattle.i3c_lines.proofs.Arguments.{address_written, no_address, only_token, same_first}
use Rattle.i3c_lines.proofs.LineLaws.{one_token}
use Rattle.i3c_lines.proofs.Meanings.{rest_of}
use Rattle.i3c_lines.proofs.SplitLaws.{hex_no_space, joined_tokens, split_tokens}
use Rattle.i3c_lines.proofs.command.parse_addresses.Goals as goal

pub returns-in_err-first : goal.returns-in_err-first
returns-in_err-first c = rw c.from_residual.ensures (λ parts is. let split = split_tokens _ _ _ is.2 in c.in_err-first.ensures.none refl is.0 split.0 is.3.0.0.0 split.1)

pub returns-in_err-at : goal.returns-in_err-at
returns-in_err-at c =
    rw c.from_residual-in_err-at.ensures
    (λ parts is.
    let split = split_tokens _ _ _ is.2 in
    let same = same_first is.0 c.in_ok-first.first.now split.0 _ (is.3.0.0.0 ∙ sym c.in_ok-first.ensures.split.0) (sym split.1 ∙ c.in_ok-first.ensures.split.1) in
    no_address c.in_ok-first.first.now c.in_err-at.ensures.form.1 parts.0 (subst (λ w. WritesAddress w parts.0) same is.3))

pub returns-in_err-second : goal.returns-in_err-second
returns-in_err-second c =
    rw c.from_residual-in_err-second.ensures
    (λ parts is.
    let first = c.in_ok-first.first.now in
    let digits = c.in_ok-at.ensures.form.0 refl in
    let tokens = ap tokens_of c.in_ok-first.ensures.split.1 ∙ joined_tokens first (option_copied c.in_ok-first.rest) (hex_no_space _ digits.0.1) in
    let alone = tokens ∙ ap (λ rest. first ∷ tokens_in (option_copied rest)) c.in_err-second.was in omega (arith, ap length (sym is.2 ∙ alone)))

pub returns-in_err-to : goal.returns-in_err-to
returns-in_err-to c =
    rw c.from_residual-in_err-to.ensures
    (λ parts is.
    let first = c.in_ok-first.first.now in
    let second = c.in_ok-second.second.now in
    let digits = c.in_ok-at.ensures.form.0 refl in
    let tokens = ap tokens_of c.in_ok-first.ensures.split.1 ∙ joined_tokens first (option_copied c.in_ok-first.rest) (hex_no_space _ digits.0.1) in
    let both = tokens ∙ ap (λ rest. first ∷ tokens_in (option_copied rest)) c.in_ok-second.was in
    let same : second ≡ is.1 = only_token second is.1 (ap rest_of (sym both ∙ is.2)) in no_address second c.in_err-to.ensures.form.1 parts.1 (subst (λ w. WritesAddress w parts.1) (sym same) is.4))

pub returns : goal.returns
returns c =
    let first = c.in_ok-first.first.now in
    let second = c.in_ok-second.second.now in
    let digits = c.in_ok-at.ensures.form.0 refl in
    let more = c.in_ok-to.ensures.form.0 refl in
    let tokens = ap tokens_of c.in_ok-first.ensures.split.1 ∙ joined_tokens first (option_copied c.in_ok-first.rest) (hex_no_space _ digits.0.1) in
    let both = tokens ∙ ap (λ rest. first ∷ tokens_in (option_copied rest)) c.in_ok-second.was ∙ ap (λ ws. first ∷ ws) (one_token second (hex_no_space _ more.0.1)) in
    (first, second, both, address_written first _ digits c.in_ok-at.ensures.value, address_written second _ more c.in_ok-to.ensures.value)
