-- One key more, which is the same or isn't.
use Rattle.std.proofs.Common.{◌∙◌, ◌<◌, ◌+◌, Bool, List, [], ap, arith, false, length, map, sym, true}
use Rattle.std.specs.Global.{Vec}
use Rattle.std.proofs.lemmas.List.{length-map}
use Rattle.std.proofs.lemmas.List.Sums.{count_by_more_no, count_by_more_yes}
use Rattle.i3c_tracks.specs.Groups.{are_alike}
use Rattle.i3c_tracks.proofs.GroupLaws.{alike_key}
use Rattle.i3c_tracks.proofs.groups.size_of.Goals as goal
use Rattle.i3c_tracks.proofs.groups.size_of.Goals.{then-eq, else-eq}

pub loop-index-preserved : goal.loop-index-preserved
loop-index-preserved c =
    let keys = c.args.keys.now in
    let key = c.args.key.now in
    let i = c.loop-index.index in
    let lt : i < length keys = c.loop-index-test.true in
    let all = map (λ (key : Vec Bool). key.items) keys in
    let inside : i < length all = omega (arith, length-map keys (λ (key : Vec Bool). key.items)) in
    elim c.if-eq.branch [
      | then-eq w ↦
          let alike = alike_key keys i c.index-keys-index.result c.as_slice.result.now key true lt c.index-keys-index.is c.as_slice.ensures.value w.if-eq.ensures in
          (w.size-is ∙ ap (λ n. n + 1) c.loop-index.invariant.0 ∙ sym (count_by_more_yes (λ (one : List Bool). are_alike one key) all i [] inside alike), omega (arith, w.size-is))
      | else-eq w ↦
          let unlike = alike_key keys i c.index-keys-index.result c.as_slice.result.now key false lt c.index-keys-index.is c.as_slice.ensures.value w.if-eq.ensures in
          (w.size-is ∙ c.loop-index.invariant.0 ∙ sym (count_by_more_no (λ (one : List Bool). are_alike one key) all i [] inside unlike), omega (arith, w.size-is))
    ]
