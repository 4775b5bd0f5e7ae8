use Rattle.std.proofs.Common.{subst, sym}
use Rattle.i3c_device.specs.Walks.{AreReached}
use Rattle.i3c_device.proofs.SeenWalks.{reached_all, reached_one, slots_seen}
use Rattle.i3c_device.proofs.devices.Devices.reached.Goals as goal

pub returns-in-None-clause-reached : goal.returns-in-None-clause-reached
returns-in-None-clause-reached c =
    subst (λ to. AreReached c.args.active to c.but.result c.args.self.now) (sym c.in-None.is)
    (reached_all c.self.inside.enabled c.self.inside.occupants c.args.self.now c.args.active c.marks.result.now.present c.but.result c.self.view_is c.marks.ensures.marks.present c.but.ensures)

pub returns-in-Some-clause-reached : goal.returns-in-Some-clause-reached
returns-in-Some-clause-reached c =
    subst (λ to. AreReached c.args.active to c.targets.result c.args.self.now) (sym c.in-Some.is)
    (reached_one c.self.inside.enabled c.self.inside.occupants c.args.self.now c.args.active c.in-Some.address c.targets.result c.self.view_is c.targets.ensures.there)

pub returns-in-None-clause-slots : goal.returns-in-None-clause-slots
returns-in-None-clause-slots c = slots_seen c.self.inside.enabled c.self.inside.occupants c.args.self.now c.marks.ensures.slots c.self.view_is

pub returns-in-Some-clause-slots : goal.returns-in-Some-clause-slots
returns-in-Some-clause-slots c = slots_seen c.self.inside.enabled c.self.inside.occupants c.args.self.now c.targets.ensures.slots c.self.view_is
