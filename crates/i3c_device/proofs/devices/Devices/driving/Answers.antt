use Rattle.i3c_device.proofs.SeenWalks.{asking_seen, slots_seen}
use Rattle.i3c_device.proofs.devices.Devices.driving.Goals as goal

pub returns-clause-asking : goal.returns-clause-asking
returns-clause-asking c s l =
    asking_seen c.self.inside.enabled c.marks-marks.result.now c.self.inside.occupants c.args.self.now c.args.active s c.and-joins.result c.and-roles.result c.and-interrupts.result c.or.result c.or-2.result c.but.result
    c.self.view_is c.marks-marks.ensures.marks l (c.and-joins.ensures s l) (c.and-roles.ensures s l) (c.and-interrupts.ensures s l) (c.or.ensures s l) (c.or-2.ensures s l) (c.but.ensures s l)

pub returns-clause-slots : goal.returns-clause-slots
returns-clause-slots c = slots_seen c.self.inside.enabled c.self.inside.occupants c.args.self.now c.marks-marks.ensures.slots c.self.view_is
