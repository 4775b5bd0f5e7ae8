use Rattle.std.proofs.Common.{arith}
use Rattle.i3c_model.proofs.Requests.{first_all}
use Rattle.i3c_model.proofs.plain.Plain.first_request.Goals as goal

pub returns : goal.returns
returns c = first_all c.args.self.now c.loop-index.index c.loop-index.first (omega (arith, c.slots-index-end.ensures.all)) c.loop-index.invariant
