use Rattle.std.proofs.Common.{sym}
use Rattle.i3c_every.proofs.marks.is_taken_at.Goals as goal

pub returns-in-Some : goal.returns-in-Some
returns-in-Some g c = λ sure. let (within, read) = c.in-Some.ensures.lookup.3 in (c.in-Some.taken.now, (c.args.index, within, sym (read c.in-Some.taken.now)), c.is_alike.ensures sure)
