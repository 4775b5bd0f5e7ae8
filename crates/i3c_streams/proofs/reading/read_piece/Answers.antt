use Rattle.std.proofs.Common.{rules}
use Rattle.i3c_streams.proofs.reading.read_piece.Goals as goal

pub returns-then-count-left : goal.returns-then-count-left
returns-then-count-left g c = search rules
