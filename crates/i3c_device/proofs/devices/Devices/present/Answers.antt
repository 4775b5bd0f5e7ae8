use Rattle.i3c_device.proofs.SeenWalks.{held_seen, slots_seen}
use Rattle.i3c_device.proofs.devices.Devices.present.Goals as goal

pub returns-clause-present : goal.returns-clause-present
returns-clause-present c s = held_seen c.self.inside.enabled c.self.inside.occupants c.args.self.now c.marks.result.now.present s c.self.view_is c.marks.ensures.marks.present

pub returns-clause-slots : goal.returns-clause-slots
returns-clause-slots c = slots_seen c.self.inside.enabled c.self.inside.occupants c.args.self.now c.marks.ensures.slots c.self.view_is
