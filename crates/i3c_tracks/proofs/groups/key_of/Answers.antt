-- One question more.
use Rattle.std.proofs.Common.{◌∙◌, ◌≤◌, List, ap, arith, length, map}
use Rattle.std.proofs.lemmas.List.{take_all}
use Rattle.i3c_tracks.specs.declared.question.Question.{Question}
use Rattle.i3c_tracks.specs.Groups.{holds_in}
use Rattle.i3c_tracks.specs.Planning.{step_of}
use Rattle.i3c_tracks.specs.Questions.{asking}
use Rattle.i3c_tracks.proofs.GroupLaws.{key_more}
use Rattle.i3c_tracks.proofs.KeyLaws.{maps_length}
use Rattle.i3c_tracks.proofs.groups.key_of.Goals as goal

pub loop-index-preserved : goal.loop-index-preserved
loop-index-preserved c questions same =
    key_more c.args.state.now c.run.new.runner.live.value c.args.asked.now questions c.loop-index.key.items c.push.new.self.items c.loop-index.index c.index-asked-index.result c.is_unbroken.result same (c.loop-index.invariant questions same) c.loop-index-test.true c.index-asked-index.is (λ held. c.in_ok-ran.ensures.leads (c.is_unbroken.ensures.held held))
    (λ broken. c.in_ok-ran.ensures.broken (c.is_unbroken.ensures.broken broken)) c.in_ok-push.ensures.items

pub returns : goal.returns
returns c questions same =
    let few : length questions ≤ c.loop-index.index = omega (arith, maps_length step_of asking c.args.asked.now questions same, c.loop-index-test.false) in
    c.loop-index.invariant questions same ∙ ap (λ (qs : List Question). map (holds_in c.args.state.now) qs) (take_all c.loop-index.index questions few)
