use Rattle.std.proofs.Common.{rules}
use Rattle.i3c_recorder.proofs.recorder.Recorder.reserve.Goals as goal

pub returns-clause-room : goal.returns-clause-room
returns-clause-room c = search rules
