use Rattle.i3c_device.proofs.LeastLaws.{least_seen}
use Rattle.i3c_device.proofs.SeenWalks.{slots_seen}
use Rattle.i3c_device.proofs.devices.Devices.least_heard.Goals as goal

pub returns-clause-least : goal.returns-clause-least
returns-clause-least c = least_seen c.self.inside.enabled c.self.inside.occupants c.args.self.now c.least_heard.result c.self.view_is c.least_heard.ensures.least

pub returns-clause-slots : goal.returns-clause-slots
returns-clause-slots c = slots_seen c.self.inside.enabled c.self.inside.occupants c.args.self.now c.least_heard.ensures.slots c.self.view_is
