use Rattle.std.proofs.Common.{rules}
use Rattle.i3c_recorder.proofs.packed.short_frame.Goals as goal

pub returns-in-OpenDaa : goal.returns-in-OpenDaa
returns-in-OpenDaa c = search rules
