-- A slot more holds what was kept, until none is left.
use Rattle.std.proofs.Common.{Some, refl, sym}
use Rattle.i3c_device.proofs.KeepLaws.{held_more, woken_more}
use Rattle.i3c_device.proofs.SameLaws.{same_all}
use Rattle.i3c_device.proofs.occupants.Occupants.wake.Goals as goal

pub loop-index-preserved : goal.loop-index-preserved
loop-index-preserved c =
    let h = c.loop-index.invariant in
    let more =
    woken_more c.loop-index.left c.take_lowest.new.self c.in-Some.index c.in-Some.index c.loop-index.self c.args.kept.now c.wake_held.new.self (Some c.device.result.now)
    h.0 h.1 c.in-Some.ensures.taken.3 refl c.in-Some.ensures.taken.0 (sym c.device.ensures) c.wake_held.ensures in
    (more.0, more.1, held_more c.loop-index.left c.take_lowest.new.self c.in-Some.index c.loop-index.self c.args.kept.now c.wake_held.new.self (Some c.device.result.now) c.in-Some.ensures.taken.3 c.wake_held.ensures h.2)

pub returns : goal.returns
returns c = same_all c.loop-index.left c.loop-index.self c.args.kept.now c.loop-index.invariant.1 c.in_default.ensures.taken c.loop-index.invariant.0 c.present.ensures.slots
