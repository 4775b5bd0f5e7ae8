use Rattle.i3c_device.proofs.SeenWalks.{slots_seen, takers_seen}
use Rattle.i3c_device.proofs.devices.Devices.unaddressed_at.Goals as goal

pub returns-clause-takers : goal.returns-clause-takers
returns-clause-takers c =
    takers_seen c.self.inside.enabled c.self.inside.occupants c.args.self.now c.args.active c.args.fixed c.unaddressed_at.result c.self.view_is c.unaddressed_at.ensures.takers

pub returns-clause-slots : goal.returns-clause-slots
returns-clause-slots c = slots_seen c.self.inside.enabled c.self.inside.occupants c.args.self.now c.unaddressed_at.ensures.slots c.self.view_is
