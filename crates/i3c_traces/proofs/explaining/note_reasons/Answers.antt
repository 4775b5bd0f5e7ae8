use Rattle.std.proofs.Common.{inr}
use Rattle.i3c_traces.proofs.explaining.note_reasons.Goals as goal

pub returns-in-Ok : goal.returns-in-Ok
returns-in-Ok c = inr (c.in-Ok.frames, c.in-Ok.ensures, c.explain_frames.ensures)
