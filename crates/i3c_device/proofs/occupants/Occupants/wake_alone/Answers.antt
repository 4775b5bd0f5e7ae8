-- A slot more that was held in one of both alone holds what was kept.
use Rattle.std.specs.Option.{option_copied}
use Rattle.i3c_device.proofs.KeepLaws.{alone_more}
use Rattle.i3c_device.proofs.occupants.Occupants.wake_alone.Goals as goal

pub loop-index-preserved : goal.loop-index-preserved
loop-index-preserved c =
    alone_more c.loop-index.left c.take_lowest.new.self c.in-Some.index c.from_index-slot.result c.loop-index.self c.args.kept.now c.wake_at.new.self (option_copied c.at.result)
    c.loop-index.invariant.0 c.loop-index.invariant.1 c.in-Some.ensures.taken.3 c.from_index-slot.ensures c.in-Some.ensures.taken.0 c.at.ensures.place c.wake_at.ensures.put

pub returns-clause-woken : goal.returns-clause-woken
returns-clause-woken c s l = c.loop-index.invariant.1 s l (c.in_default.ensures.taken s l)
