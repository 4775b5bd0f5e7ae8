-- One end more.
use Rattle.std.proofs.Common.{◌∙◌, Bool, List, ap, map, sym}
use Rattle.std.specs.Global.{Vec}
use Rattle.std.proofs.lemmas.List.{take_all}
use Rattle.i3c_explore.specs.declared.node.Node.{Node}
use Rattle.i3c_scene.specs.declared.line.Line.{Line}
use Rattle.i3c_scene.specs.Scenes.{Seen}
use Rattle.i3c_tracks.specs.Groups.{key_of}
use Rattle.i3c_tracks.specs.Planning.{step_of}
use Rattle.i3c_tracks.proofs.KeyLaws.{mapped_more}
use Rattle.i3c_tracks.proofs.groups.keys_of.Goals as goal

pub loop-index-preserved : goal.loop-index-preserved
loop-index-preserved c =
    mapped_more (λ (key : Vec Bool). key.items) (key_of c.args.questions.now) c.loop-index.keys.items c.push.new.self.items c.args.ends.now c.loop-index.index c.index-ends-index.result c.in_ok-key_of.field-0 c.loop-index.invariant c.in_ok-push.ensures.items c.loop-index-test.true c.index-ends-index.is
    (c.in_ok-key_of.ensures c.args.questions.now (ap (λ (lines : List Line). map step_of lines) c.deref.ensures.value ∙ c.in_ok-asked.ensures) ∙ ap (λ (end : Node Seen). key_of c.args.questions.now end) (sym c.index-ends-index.is))

pub returns : goal.returns
returns c = c.loop-index.invariant ∙ ap (λ (es : List (Node Seen)). map (key_of c.args.questions.now) es) (take_all c.loop-index.index c.args.ends.now c.loop-index-test.false)
