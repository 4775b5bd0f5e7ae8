use Rattle.std.proofs.Common.{◌≡◌, ◌∙◌, List, ℕ, Option, Some, None, ◌∷◌, ap, codes, refl, rules, subst, sym}
use denote.Ref.{Bor}
use Rattle.std.specs.Option.{option_copied}
use Rattle.i3c_lines.specs.Forms.{IsSentForm, tokens_of}
use Rattle.i3c_lines.specs.Naming.{letters}
use Rattle.i3c_lines.specs.Parsing.{tokens_in}
use Rattle.i3c_lines.proofs.Arguments.{as_args, no_sent}
use Rattle.i3c_lines.proofs.Meanings.{rest_of}
use Rattle.i3c_lines.proofs.SplitLaws.{joined_tokens, name_no_space, split_tokens}
use Rattle.i3c_lines.proofs.command.Command.read_as.Goals as goal

pub returns-in_err-name : goal.returns-in_err-name
returns-in_err-name c =
    rw c.from_residual.ensures
    (λ command form. let f = as_args _ command form in let split = split_tokens _ _ _ f.4 in c.in_err-name.ensures.none refl f.2 split.0 f.5.0 split.1, refl)

pub returns-in_err-behind : goal.returns-in_err-behind
returns-in_err-behind c =
    let gone : c.in_ok-name.rest ≡ None = search rules in
    rw c.from_residual-in_err-behind.ensures (
      λ command form.
          let f = as_args _ command form in
          let name = letters c.in_ok-name.name in
          let tokens = ap tokens_of c.in_ok-name.ensures.split ∙ joined_tokens name (option_copied c.in_ok-name.rest) (name_no_space name c.in_ok-name.ensures.name) in
          no_sent f.1 (subst (λ ws. IsSentForm ws f.1) (ap rest_of (sym f.4 ∙ tokens) ∙ ap (λ (o : Option (Bor (List ℕ))). tokens_in (option_copied o)) gone) f.6),
      refl,
    )

pub returns-in_err-sent : goal.returns-in_err-sent
returns-in_err-sent c =
    let there : c.in_ok-name.rest ≡ Some c.in_ok-behind.behind = search rules in
    rw c.from_residual-in_err-sent.ensures (
      λ command form.
          let f = as_args _ command form in
          let name = letters c.in_ok-name.name in
          let tokens = ap tokens_of c.in_ok-name.ensures.split ∙ joined_tokens name (option_copied c.in_ok-name.rest) (name_no_space name c.in_ok-name.ensures.name) in
          c.in_err-sent.ensures f.1 (subst (λ ws. IsSentForm ws f.1) (ap rest_of (sym f.4 ∙ tokens) ∙ ap (λ (o : Option (Bor (List ℕ))). tokens_in (option_copied o)) there) f.6),
      refl,
    )

pub returns : goal.returns
returns c =
    let there : c.in_ok-name.rest ≡ Some c.in_ok-behind.behind = search rules in
    let name = letters c.in_ok-name.name in
    let tokens = ap tokens_of c.in_ok-name.ensures.split ∙ joined_tokens name (option_copied c.in_ok-name.rest) (name_no_space name c.in_ok-name.ensures.name) in (
      name,
      tokens_of c.in_ok-behind.behind.now,
      ap (λ ws. codes "as" ∷ ws) (tokens ∙ ap (λ (o : Option (Bor (List ℕ))). name ∷ tokens_in (option_copied o)) there),
      (c.in_ok-name.ensures.name, refl),
      c.in_ok-sent.ensures,
    )
