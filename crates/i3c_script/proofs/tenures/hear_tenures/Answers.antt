-- The times that ended are heard one after the other, and then the one that lasts.
use Rattle.std.proofs.Common.{◌≡◌, ◌∙◌, ap, arith, length, refl, subst, sym}
use Rattle.std.specs.Prelude.{OnOk, Some, slice_get}
use Rattle.i3c_script.specs.declared.tenures.Tenure.{Tenure}
use Rattle.i3c_script.specs.Hearing.{all_heard}
use Rattle.i3c_script.specs.Pieces.{pasts_pieces, tenure_pieces}
use Rattle.i3c_script.specs.Tenures.{began_at}
use Rattle.i3c_script.proofs.Hearing.{heard_behind, heard_more}
use Rattle.i3c_script.proofs.Showing.{at_get, began_next, past_more, past_none}
use Rattle.i3c_script.proofs.tenures.hear_tenures.Goals as goal

pub loop-index-init : goal.loop-index-init
loop-index-init g c = (sym (ap (all_heard g.L.Listener.heard c.args.listener.now) (past_none c.args.ended.now)), refl)

pub loop-index-preserved : goal.loop-index-preserved
loop-index-preserved g c =
    let heard = g.L.Listener.heard in
    let ended = c.args.ended.now in
    let index = c.loop-index.index in
    let tenure : Tenure = c.index-ended-index.result in
    let there : slice_get ended index ≡ Some tenure = at_get ended index tenure c.loop-index-test.true c.index-ended-index.is in
    let told : c.hear_tenure.new.listener ≡ all_heard heard c.loop-index.listener (tenure_pieces tenure.slot (began_at ended index) tenure.records) =
    c.in_ok-hear_tenure.ensures ∙ ap (λ from. all_heard heard c.loop-index.listener (tenure_pieces tenure.slot from tenure.records)) c.loop-index.invariant.1 in (
      heard_more heard c.args.listener.now c.loop-index.listener c.hear_tenure.new.listener (pasts_pieces ended index) (tenure_pieces tenure.slot (began_at ended index) tenure.records) c.loop-index.invariant.0 told
          ∙ ap (all_heard heard c.args.listener.now) (sym (past_more ended index tenure there)),
      began_next ended index tenure there,
    )

pub returns : goal.returns
returns g c =
    let heard = g.L.Listener.heard in
    let ended = c.args.ended.now in
    let index = c.loop-index.index in
    let all : index ≡ length ended = omega (arith, c.loop-index.auto.index-end, c.loop-index-test.false) in
    let told = subst (λ k. c.loop-index.listener ≡ all_heard heard c.args.listener.now (pasts_pieces ended k)) all c.loop-index.invariant.0 in
    let from : c.loop-index.from ≡ began_at ended (length ended) = c.loop-index.invariant.1 ∙ ap (began_at ended) all in
    heard_behind heard c.hear_tenure-2.result c.args.listener.now c.loop-index.listener c.hear_tenure-2.new.listener (pasts_pieces ended (length ended)) (tenure_pieces c.args.active (began_at ended (length ended)) c.args.records) told
    (subst (λ f. OnOk c.hear_tenure-2.result (c.hear_tenure-2.new.listener ≡ all_heard heard c.loop-index.listener (tenure_pieces c.args.active f c.args.records))) from c.hear_tenure-2.ensures)
