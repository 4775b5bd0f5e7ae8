-- Event by event.
use Rattle.i3c_wire_laws.proofs.Sent.{assignment_sent}
use Rattle.i3c_wire_laws.proofs.laws.assignments_are_sent.Goals as goal

pub returns : goal.returns
returns c old cuts served given complete new wire h = assignment_sent old cuts served given complete new wire h
