use Rattle.std.proofs.Common.{◌∙◌, ◌<◌, ◌∷◌, [], ap, arith, below_more, length, refl, subst, sym}
use Rattle.std.proofs.lemmas.Bool.{false≢true}
use Rattle.i3c_lines.specs.Refusing.{refusal_token}
use Rattle.i3c_facts.specs.Forms.{IsReason}
use Rattle.i3c_facts.proofs.ReasonLaws.{no_reason, none_here, one_reason}
use Rattle.i3c_facts.proofs.reasons.plain_reason.Goals as goal

pub loop-index-preserved : goal.loop-index-preserved
loop-index-preserved c =
    let reasons = c.plain_reasons-reasons.result in
    let within : c.loop-index.index < length reasons = subst (λ rs. c.loop-index.index < length rs) (sym c.plain_reasons-reasons.ensures) c.loop-index-test.true in
    below_more _ _ c.loop-index.invariant
    (none_here _ reasons c.loop-index.index c.index-reasons-index.result c.plain_reasons-reasons.ensures within c.index-reasons-index.is (λ e. false≢true (c.if-is_token.ensures.1 (e ∙ ap refusal_token c.index-reasons-index.is ∙ sym (c.as_bytes.ensures.value ∙ c.token.ensures)))))

pub returns-then-is_token : goal.returns-then-is_token
returns-then-is_token c =
    let reasons = c.plain_reasons-reasons.result in
    let within : c.loop-index.index < length reasons = subst (λ rs. c.loop-index.index < length rs) (sym c.plain_reasons-reasons.ensures) c.loop-index-test.true in
    subst (IsReason (c.args.token.now ∷ [])) c.index-reasons-index.is (one_reason c.args.token.now reasons c.loop-index.index c.index-reasons-index.result c.plain_reasons-reasons.ensures within c.index-reasons-index.is
    (c.if-is_token.ensures.0 refl ∙ c.as_bytes.ensures.value ∙ c.token.ensures ∙ ap refusal_token (sym c.index-reasons-index.is)))

pub returns : goal.returns
returns c = no_reason c.args.token.now (λ k below. c.loop-index.invariant k (omega (arith, below, c.loop-index-test.false)))
