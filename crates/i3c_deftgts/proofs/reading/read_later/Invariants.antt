use Rattle.std.proofs.Common.{length}
use Rattle.i3c_deftgts.proofs.ReadingLaws.{IsReading}
use Rattle.i3c_deftgts.proofs.reading.read_later.Given as goal

abbrev pub invariant-loop-rest : goal.invariant-loop-rest
invariant-loop-rest l = IsReading l.fn.first l.words l.rest l.gathered l.twice l.number

abbrev pub decreases-loop-rest : goal.decreases-loop-rest
decreases-loop-rest l = length l.rest
