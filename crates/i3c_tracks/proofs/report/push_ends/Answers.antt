-- One end more.
use Rattle.std.proofs.Common.{length, not, refl}
use Rattle.std.proofs.lemmas.Option.{slice_get_read}
use Rattle.i3c_tracks.proofs.EndLaws.{ends_more}
use Rattle.i3c_tracks.proofs.report.push_ends.Goals as goal

pub loop-index-preserved : goal.loop-index-preserved
loop-index-preserved c =
    let (earlier, told, before) = c.loop-index.invariant in
    let (own, is, put) = c.in_ok-push_end.ensures in
    ends_more c.args.lines.now c.args.plan.now.blocks.items c.args.plan.now.opened.items (not c.args.plan.now.risky) c.args.ends.now c.loop-index.index c.index-ends-index.result c.args.text.now c.loop-index.text c.push_end.new.text earlier own told before
    (slice_get_read c.args.ends.now (length c.args.ends.now) c.loop-index.index c.index-ends-index.result refl c.loop-index-test.true c.index-ends-index.is) is put
