-- The devices that answer there and have no dynamic address, except the active controller.
use Rattle.std.proofs.Common.{arith, subst}
use Rattle.i3c_device.specs.Walks.{AreTakers}
use Rattle.i3c_device.proofs.MarkLaws.{takers_at}
use Rattle.i3c_device.proofs.occupants.Occupants.unaddressed_at.Goals as goal

pub at-there-requires : goal.at-there-requires
at-there-requires c = c.self.invariant.1.answering.0

pub returns-clause-takers : goal.returns-clause-takers
returns-clause-takers c =
    let marks = c.self.inside.marks in
    let are = c.self.invariant.1 in
    subst (AreTakers c.args.active c.args.fixed c.but.result) c.self.view_is
    (takers_at c.args.active c.args.fixed marks.answering c.self.inside.places marks.unaddressed c.at-there.result c.and.result c.but.result (omega arith) are.answering are.unaddressed c.at-there.ensures c.and.ensures c.but.ensures)
