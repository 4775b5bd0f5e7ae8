use Rattle.std.proofs.Common.{sym}
use Rattle.i3c_wave.proofs.LevelLaws.{bits_at, bits_past}
use Rattle.i3c_wave.proofs.levels.number_bit.Goals as goal

pub returns-then-index-count-clause-bit : goal.returns-then-index-count-clause-bit
returns-then-index-count-clause-bit c = sym (bits_at c.args.count c.args.number c.args.index c.if-index-count.true)

pub returns-else-index-count-clause-bit : goal.returns-else-index-count-clause-bit
returns-else-index-count-clause-bit c = sym (bits_past c.args.count c.args.number c.args.index c.if-index-count.false)
