use Rattle.i3c_base.specs.Cutting.{lost_by}
use Rattle.i3c_base.specs.State.{with_active}
use Rattle.i3c_device.proofs.SeenWalks.{heard_some}
use Rattle.i3c_device.proofs.devices.Devices.is_heard.Goals as goal

pub returns : goal.returns
returns c = heard_some (with_active c.args.self.now c.args.active) c.args.to.now c.reached.result (lost_by c.args.cuts.now c.args.last) c.outlasts.result c.reached.ensures.slots c.reached.ensures.reached c.outlasts.ensures
