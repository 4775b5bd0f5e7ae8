-- The contest is of the hearers.
use Rattle.std.proofs.Common.{subst}
use Rattle.i3c_wires.specs.BitColumns.{IsWon}
use Rattle.i3c_device.specs.Least.{IsLeastHeard}
use Rattle.i3c_device.proofs.LeastLaws.{least_won}
use Rattle.i3c_device.proofs.occupants.Occupants.least_heard.Goals as goal

pub returns-in-Some-clause-least : goal.returns-in-Some-clause-least
returns-in-Some-clause-least c =
    let inside = c.self.inside in
    let marks = inside.marks in
    let are = c.self.invariant.1 in
    subst (λ places. IsLeastHeard places (c.in-Some.won.bits, c.of_bits.result)) c.self.view_is
    (least_won inside.places marks.columns marks.hearing c.of_bits.result c.in-Some.won c.self.invariant.0 are.hearing are.columns (subst (λ among. IsWon marks.columns.numbers among c.in-Some.won) c.bits.ensures c.in-Some.ensures) c.of_bits.ensures)
