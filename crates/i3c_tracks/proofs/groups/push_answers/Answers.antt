-- Behind the last question nothing is left to tell.
use Rattle.std.proofs.Common.{◌∙◌, ◌++◌, ap, arith, sym}
use Rattle.std.proofs.lemmas.List.{append-nil}
use Rattle.i3c_tracks.proofs.GroupLaws.{no_answers}
use Rattle.i3c_tracks.proofs.groups.push_answers.Goals as goal

pub returns : goal.returns
returns c =
    sym (append-nil c.loop-index.text) ∙ sym (ap (λ text. c.loop-index.text ++ text) (no_answers c.args.questions.now c.args.key.now c.loop-index.index (omega (arith, c.min-index-end.ensures, c.loop-index-test.false)))) ∙ c.loop-index.invariant
