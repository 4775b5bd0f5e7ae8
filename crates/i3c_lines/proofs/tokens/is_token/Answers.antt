use Rattle.std.proofs.Common.{◌≡◌, ◌∙◌, ◌++◌, [], ap, arith, drop, inl, inr, length, sym}
use Rattle.std.proofs.lemmas.Bool.{cases_Bool}
use Rattle.std.proofs.lemmas.List.{append-nil, drop_all}
use Rattle.i3c_lines.proofs.tokens.is_token.Goals as goal

pub returns-then-text-token : goal.returns-then-text-token
returns-then-text-token c =
    let text = c.args.text.now in
    let token = c.args.token.now in
    let rest : drop (length token) text ≡ [] = drop_all (length token) text (omega arith) in (
      λ begins. c.begins.ensures.begins begins ∙ ap (λ r. token ++ r) rest ∙ append-nil token,
      λ e. elim (cases_Bool c.begins.result) [
        | inl t ↦ t
        | inr differs ↦ absurd (c.begins.ensures.differs differs [] (e ∙ sym (append-nil token)))
      ],
    )
