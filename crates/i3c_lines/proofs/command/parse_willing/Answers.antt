use Rattle.std.proofs.Common.{◌≡◌, ◌∙◌, ◌∷◌, arith, codes, refl}
use Rattle.std.proofs.lemmas.Slice.Eq.{text_from_reads}
use Rattle.i3c_lines.proofs.command.parse_willing.Goals as goal

pub returns-in_ok-end-in-Some-decline : goal.returns-in_ok-end-in-Some-decline
returns-in_ok-end-in-Some-decline c =
    let token = c.in-Some-decline.field-0.now in
    let decline : token ≡ codes "decline" =
    text_from_reads token (codes "decline") (omega arith) (omega arith, (omega arith, (omega arith, (omega arith, (omega arith, (omega arith, (omega arith, tt))))))) in
    c.in-Some-decline.ensures ∙ (λ i. decline i ∷ c.in_ok-end-in-Some-decline.ensures.0 refl i)
