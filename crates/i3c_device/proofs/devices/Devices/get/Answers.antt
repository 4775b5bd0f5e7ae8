-- The slot's device, with the kinds of the slot.
use Rattle.i3c_device.specs.Enabling.{kinds_of}
use Rattle.i3c_device.proofs.SeenWalks.{nobody_seen, single_seen, slots_seen}
use Rattle.i3c_device.proofs.devices.Devices.get.Goals as goal

pub returns-in-Some-clause-device : goal.returns-in-Some-clause-device
returns-in-Some-clause-device c =
    single_seen c.self.inside.enabled c.self.inside.occupants c.args.self.now c.args.slot c.index.result c.at.result.now c.in-Some.attached c.copied.result (kinds_of c.at-in-Some.result) c.self.view_is c.at.ensures.place
    c.in-Some.is c.copied.ensures c.index.ensures.same c.at-in-Some.ensures

pub returns-in-Some-clause-slots : goal.returns-in-Some-clause-slots
returns-in-Some-clause-slots c = slots_seen c.self.inside.enabled c.self.inside.occupants c.args.self.now c.at.ensures.slots c.self.view_is

pub returns-in-None-clause-device : goal.returns-in-None-clause-device
returns-in-None-clause-device c = nobody_seen c.self.inside.enabled c.self.inside.occupants c.args.self.now c.args.slot c.at.result.now c.self.view_is c.at.ensures.place c.in-None.is

pub returns-in-None-clause-slots : goal.returns-in-None-clause-slots
returns-in-None-clause-slots c = slots_seen c.self.inside.enabled c.self.inside.occupants c.args.self.now c.at.ensures.slots c.self.view_is
