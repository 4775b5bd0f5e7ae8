-- What the least identity says of the hearers, where nobody is cut.
use Rattle.std.proofs.Common.{refl}
use Rattle.i3c_entdaa.proofs.LeastLaws.{least_contest, least_takers}
use Rattle.i3c_entdaa.proofs.identities.read_identity.Goals as goal

pub returns-clause-contest : goal.returns-clause-contest
returns-clause-contest c st same =
    least_contest st c.args.devices.now c.args.cuts.now (c.in-Some.bits, c.in-Some.takers) same c.in-Some.ensures.slots (c.if-not-is_empty.ensures.uncut.0 refl) c.in-Some.ensures.least

pub returns-clause-takers : goal.returns-clause-takers
returns-clause-takers c = least_takers c.args.devices.now c.args.cuts.now (c.in-Some.bits, c.in-Some.takers) (c.if-not-is_empty.ensures.uncut.0 refl) c.in-Some.ensures.least
