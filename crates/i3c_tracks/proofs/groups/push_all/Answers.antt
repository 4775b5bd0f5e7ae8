-- One end more.
use Rattle.i3c_tracks.specs.Groups.{begins_at, keys_of}
use Rattle.i3c_tracks.proofs.GroupLaws.{groups_few, groups_more, texts_more}
use Rattle.i3c_tracks.proofs.groups.push_all.Goals as goal

pub loop-index-preserved : goal.loop-index-preserved
loop-index-preserved c =
    let keys = keys_of c.args.questions.now c.args.ends.now in
    let i = c.loop-index.index in
    let (earlier, told, before) = c.loop-index.invariant.told in
    let (end, own, there, adds, put) = c.in_ok-groups.ensures.text in
    record {
      counted = groups_more keys i c.loop-index.groups c.in_ok-groups.groups c.loop-index.invariant.counted c.in_ok-groups.ensures.groups;
      few = groups_few (begins_at keys i) c.loop-index.groups c.in_ok-groups.groups i c.in_ok-groups.ensures.groups c.loop-index.invariant.few;
      told = texts_more c.args.showing c.args.lines.now c.args.plan.now c.args.questions.now c.args.ends.now i c.loop-index.groups end c.args.text.now c.loop-index.text c.push_place.new.text earlier own told before there c.loop-index.invariant.counted adds put;
    }
