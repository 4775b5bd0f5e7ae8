-- What facts know of pieces that they hear one after another.
use Rattle.std.proofs.Common.{◌∙◌, ◌++◌, ◌∷◌, [], ap, arith, sym, take}
use Rattle.std.proofs.lemmas.List.{take_all, take_more}
use Rattle.i3c_facts.specs.declared.before.Heard.{Heard}
use Rattle.i3c_facts.specs.Hearing.{heard_with, nothing_heard}
use Rattle.i3c_script.specs.declared.piece.Piece.{Piece}
use Rattle.i3c_script.specs.Hearing.{all_heard}
use Rattle.i3c_script.proofs.Hearing.{heard_both}
use Rattle.i3c_scene.proofs.replying.heard_in.Goals as goal

pub loop-index-preserved : goal.loop-index-preserved
loop-index-preserved c =
    let pieces = c.args.pieces.now in
    let index = c.loop-index.index in
    let one = c.index-pieces-index.result in
    c.note.ensures
    ∙ ap (λ (h : Heard). heard_with h one) c.loop-index.invariant
    ∙ sym (heard_both heard_with nothing_heard (take index pieces) (one ∷ []))
    ∙ ap (λ (p : Piece). all_heard heard_with nothing_heard (take index pieces ++ p ∷ [])) c.index-pieces-index.is
    ∙ ap (all_heard heard_with nothing_heard) (sym (take_more pieces index one c.loop-index-test.true))

pub returns : goal.returns
returns c = c.loop-index.invariant ∙ ap (all_heard heard_with nothing_heard) (take_all c.loop-index.index c.args.pieces.now (omega (arith, c.loop-index-test.false)))
