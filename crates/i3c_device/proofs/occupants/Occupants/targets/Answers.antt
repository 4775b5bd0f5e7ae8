-- The devices that answer there and have a dynamic address, except the active controller.
use Rattle.std.proofs.Common.{arith, Some, subst}
use Rattle.i3c_device.proofs.MarkLaws.{there_at}
use Rattle.i3c_device.proofs.occupants.Occupants.targets.Goals as goal
use Rattle.i3c_device.specs.Walks.{AreReached}

pub at-there-requires : goal.at-there-requires
at-there-requires c = c.self.invariant.1.answering.0

pub returns-clause-there : goal.returns-clause-there
returns-clause-there c =
    let marks = c.self.inside.marks in
    let are = c.self.invariant.1 in
    subst (AreReached c.args.active (Some c.args.address) c.but.result) c.self.view_is
    (there_at c.args.active c.args.address marks.answering c.self.inside.places marks.unaddressed c.at-there.result c.without.result c.but.result (omega arith) are.answering are.unaddressed c.at-there.ensures c.without.ensures c.but.ensures)
