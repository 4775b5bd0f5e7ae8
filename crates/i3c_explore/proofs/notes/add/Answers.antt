use Rattle.std.proofs.Common.{arith, length, refl}
use Rattle.std.proofs.lemmas.Option.{slice_get_read}
use Rattle.i3c_explore.proofs.Marking.{added_all, added_next}
use Rattle.i3c_explore.proofs.notes.add.Goals as goal

pub loop-track-preserved : goal.loop-track-preserved
loop-track-preserved c =
    let more = c.args.more.now.items in let at = c.loop-track.track in
    added_next more c.index.result.now at c.args.noted.now.items c.loop-track.noted.items c.add_track.new.noted.items
    (slice_get_read more (length more) at c.index.result.now refl (omega arith) c.index.ensures) c.loop-track.invariant c.add_track.ensures

pub returns : goal.returns
returns c =
    let more = c.args.more.now.items in
    added_all more c.loop-track.track c.args.noted.now.items c.loop-track.noted.items (omega arith) c.loop-track.invariant
