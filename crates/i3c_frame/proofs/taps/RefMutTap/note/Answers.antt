use Rattle.std.proofs.Common.{rules}
use Rattle.i3c_frame.proofs.taps.RefMutTap.note.Goals as goal

pub returns : goal.returns
returns g c = search rules
