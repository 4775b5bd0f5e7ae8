-- The least of those at the address.
use Rattle.i3c_device.proofs.LengthLaws.{least_of}
use Rattle.i3c_device.proofs.devices.Devices.least_length.Goals as goal

pub returns : goal.returns
returns c =
    least_of c.args.active c.args.address c.args.way c.targets-targets.result c.self.inside.enabled c.self.inside.occupants c.args.self.now c.least_length.result c.self.view_is c.targets-targets.ensures.slots c.targets-targets.ensures.there
    c.least_length.ensures
