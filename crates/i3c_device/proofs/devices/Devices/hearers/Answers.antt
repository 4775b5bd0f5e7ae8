use Rattle.std.proofs.Common.{refl}
use Rattle.i3c_device.proofs.SeenLaws.{set_now}
use Rattle.i3c_device.proofs.SeenWalks.{slots_seen}
use Rattle.i3c_device.proofs.devices.Devices.hearers.Goals as goal

pub returns-clause-hearing : goal.returns-clause-hearing
returns-clause-hearing c = set_now c.self.inside.enabled (λ d. d.hearing) c.marks.result.now.hearing c.self.inside.occupants c.args.self.now (λ kinds d. refl) c.self.view_is c.marks.ensures.marks.hearing

pub returns-clause-slots : goal.returns-clause-slots
returns-clause-slots c = slots_seen c.self.inside.enabled c.self.inside.occupants c.args.self.now c.marks.ensures.slots c.self.view_is
