-- One question more.
use Rattle.std.proofs.lemmas.List.{take_all}
use Rattle.std.proofs.Common.{◌∙◌, List, ap, map}
use Rattle.i3c_tracks.specs.declared.question.Question.{Question}
use Rattle.i3c_tracks.specs.Planning.{step_of}
use Rattle.i3c_tracks.specs.Questions.{asking}
use Rattle.i3c_tracks.proofs.KeyLaws.{mapped_more}
use Rattle.i3c_tracks.proofs.groups.asked_of.Goals as goal

pub loop-index-preserved : goal.loop-index-preserved
loop-index-preserved c =
    mapped_more step_of asking c.loop-index.asked.items c.push.new.self.items c.args.questions.now c.loop-index.index c.index-questions-index.result c.in_ok-line.field-0 c.loop-index.invariant c.in_ok-push.ensures.items c.loop-index-test.true c.index-questions-index.is c.in_ok-line.ensures

pub returns : goal.returns
returns c = c.loop-index.invariant ∙ ap (λ (qs : List Question). map asking qs) (take_all c.loop-index.index c.args.questions.now c.loop-index-test.false)
