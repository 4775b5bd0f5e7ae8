use Rattle.i3c_device.proofs.SeenWalks.{slots_seen}
use Rattle.i3c_device.proofs.devices.Devices.slots.Goals as goal

pub returns-clause-slots : goal.returns-clause-slots
returns-clause-slots c = slots_seen c.self.inside.enabled c.self.inside.occupants c.args.self.now c.slots.ensures.slots c.self.view_is
