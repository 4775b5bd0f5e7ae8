use Rattle.i3c_ibi.proofs.ReadingLaws.{reading_of}
use Rattle.i3c_ibi.proofs.readings.fronts_read.Goals as goal

pub returns : goal.returns
returns c st same are =
    reading_of st c.args.devices.now c.args.cuts.now c.args.at _ _ c.byte_read.result c.args.drivers same are c.requires.driven.long c.in-Some.ensures c.byte_read.ensures.read c.byte_read.ensures.byte

pub unreachable-requires : goal.unreachable-requires
unreachable-requires c = c.in_default.ensures c.args.at c.requires.driven
