use Rattle.i3c_wave.proofs.EdgeLaws.{frames_heard}
use Rattle.i3c_wave.proofs.laws.edges_give_the_marks.Goals as goal

pub returns : goal.returns
returns c symbols framed = frames_heard symbols framed
