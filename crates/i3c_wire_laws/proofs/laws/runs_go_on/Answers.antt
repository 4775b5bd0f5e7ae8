-- Event by event.
use Rattle.i3c_wire_laws.proofs.Sent.{sent_on}
use Rattle.i3c_wire_laws.proofs.laws.runs_go_on.Goals as goal

pub returns : goal.returns
returns c old events replies mid wire later answers new rest h k = sent_on old events replies mid wire later answers new rest h k
