-- Each answer of a round, by what the picker, the contest and the table said.
use Rattle.std.proofs.Common.{◌∙◌}
use Rattle.std.proofs.lemmas.Bool.{not-false, not-true}
use Rattle.i3c_entdaa.proofs.RoundLaws.{assigned_acknowledged, assigned_read, assigned_round, done_round, heard_not, no_address_round, nobody_acknowledged, nobody_read, nobody_round, taken_assigned}
use Rattle.i3c_entdaa.proofs.rounds.round.Goals as goal

pub returns-in_default-clause-rounds : goal.returns-in_default-clause-rounds
returns-in_default-clause-rounds c st same is = no_address_round st c.args.table.now c.args.cuts.now c.args.devices.now same is c.in_default.ensures

pub returns-in_default-read_identity-clause-rounds : goal.returns-in_default-read_identity-clause-rounds
returns-in_default-read_identity-clause-rounds c st same is =
    done_round st c.args.table.now c.args.cuts.now c.in-Some.picked c.args.devices.now c.drop_lost.new.self same is c.in-Some.ensures (c.in_default-read_identity.ensures.contest st same) c.drop_lost.ensures

pub returns-in_default-read_identity-clause-acknowledged : goal.returns-in_default-read_identity-clause-acknowledged
returns-in_default-read_identity-clause-acknowledged c st same = heard_not st c.args.cuts.now (c.in_default-read_identity.ensures.contest st same)

pub returns-then-not-read-clause-rounds : goal.returns-then-not-read-clause-rounds
returns-then-not-read-clause-rounds c st same is =
    nobody_round st c.args.table.now c.args.cuts.now c.in-Some.picked c.in-Some-read_identity.read.bits c.args.devices.now c.drop_lost-then-not-read.new.self c.in-Some-read_identity.read.acknowledged same is
    c.in-Some.ensures (c.in-Some-read_identity.ensures.contest st same) (not-true c.in-Some-read_identity.read.acknowledged c.if-not-read.true) c.drop_lost-then-not-read.ensures

pub returns-then-not-read-clause-read : goal.returns-then-not-read-clause-read
returns-then-not-read-clause-read c st same is =
    nobody_read st c.args.table.now c.args.cuts.now c.from_number-identity.result c.in-Some-read_identity.read.bits c.address_for-address.result c.in-Some-read_identity.read.acknowledged is
    (c.in-Some-read_identity.ensures.contest st same) c.from_number-identity.ensures.same c.from_number-identity.ensures.in_range c.address_for-address.ensures.chosen

pub returns-then-not-read-clause-acknowledged : goal.returns-then-not-read-clause-acknowledged
returns-then-not-read-clause-acknowledged c st same =
    nobody_acknowledged st c.args.cuts.now c.in-Some-read_identity.read.bits c.address_for-address.result c.in-Some-read_identity.read.acknowledged (c.in-Some-read_identity.ensures.contest st same)
    (not-true c.in-Some-read_identity.read.acknowledged c.if-not-read.true)

pub returns-clause-rounds : goal.returns-clause-rounds
returns-clause-rounds c st same is =
    assigned_round st c.args.table.now c.give.new.table c.args.cuts.now c.from_number-identity.result c.in-Some.picked c.in-Some-read_identity.read.bits c.address_for-address.result
    c.args.devices.now c.give.new.devices c.drop_lost-2.new.self c.in-Some-read_identity.read.acknowledged same is c.in-Some.ensures (c.in-Some-read_identity.ensures.contest st same)
    (not-false c.in-Some-read_identity.read.acknowledged c.if-not-read.false) c.from_number-identity.ensures.same c.from_number-identity.ensures.in_range c.address_for-address.ensures.chosen
    (c.give.ensures.taken
    ∙ taken_assigned c.args.cuts.now c.from_number-identity.result c.in-Some-read_identity.read.bits c.address_for-address.result c.args.devices.now c.in-Some-read_identity.read.takers c.in-Some-read_identity.ensures.slots
    c.from_number-identity.ensures.same c.from_number-identity.ensures.in_range c.in-Some-read_identity.ensures.ranged c.in-Some-read_identity.ensures.takers)
    c.drop_lost-2.ensures c.give.ensures.put

pub returns-clause-read : goal.returns-clause-read
returns-clause-read c st same is =
    assigned_read st c.args.table.now c.args.cuts.now c.from_number-identity.result c.in-Some-read_identity.read.bits c.address_for-address.result c.in-Some-read_identity.read.acknowledged is
    (c.in-Some-read_identity.ensures.contest st same) c.from_number-identity.ensures.same c.from_number-identity.ensures.in_range c.address_for-address.ensures.chosen

pub returns-clause-acknowledged : goal.returns-clause-acknowledged
returns-clause-acknowledged c st same =
    assigned_acknowledged st c.args.cuts.now c.from_number-identity.result c.in-Some-read_identity.read.bits c.address_for-address.result c.in-Some-read_identity.read.acknowledged
    (c.in-Some-read_identity.ensures.contest st same) (not-false c.in-Some-read_identity.read.acknowledged c.if-not-read.false)
