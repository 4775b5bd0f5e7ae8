-- Nobody asks, or the first request is turned down or accepted.
use Rattle.std.proofs.Common.{◌∙◌, ap, length}
use Rattle.i3c_ibi.specs.Policies.{is_known}
use Rattle.i3c_ibi.proofs.Scans.{drivers_on, first_on}
use Rattle.i3c_ibi.proofs.ServingLaws.{decided_acceptance, decided_refusal, known_accepted, refused_served}
use Rattle.i3c_ibi.proofs.serving.serve.Goals as goal

pub accept-requires : goal.accept-requires
accept-requires g c =
    record { driven = record { active = c.args.active; long = c.in-Some.ensures.slots; are = c.in-Some.ensures.first.drivers; driven = c.in-Some.ensures.first.comes_first.driven } }

pub returns-in-Refuse-clause-serves : goal.returns-in-Refuse-clause-serves
returns-in-Refuse-clause-serves g c st has given fits =
    refused_served st c.args.cuts.now c.in-Some.request c.args.devices.now c.args.active has (first_on st c.args.devices.now c.args.active c.in-Some.request c.in-Some.drivers has c.in-Some.ensures.first)

pub returns-in-Refuse-clause-asks : goal.returns-in-Refuse-clause-asks
returns-in-Refuse-clause-asks g c st has given =
    decided_refusal g.P.Policy.verdict_gives c.args.policy.now c.decide.new.policy st c.in-Some.request c.decide.result c.args.table.now.given
    (first_on st c.args.devices.now c.args.active c.in-Some.request c.in-Some.drivers has c.in-Some.ensures.first) given c.in-Refuse.is c.decide.ensures.asked c.decide.ensures.unasked

pub returns-in-Accept-clause-serves : goal.returns-in-Accept-clause-serves
returns-in-Accept-clause-serves g c st has given fits =
    let known = known_accepted c.args.policy.now c.decide.new.policy c.in-Some.request c.decide.result c.args.table.now.given c.decide.ensures.unasked c.in-Accept.is in
    c.accept.ensures.served st has.0 (drivers_on st c.args.devices.now c.args.active c.in-Some.request c.in-Some.drivers has c.in-Some.ensures.first.drivers) given fits
    (first_on st c.args.devices.now c.args.active c.in-Some.request c.in-Some.drivers has c.in-Some.ensures.first) (ap (λ entries. is_known entries c.in-Some.request) given ∙ known)

pub returns-in-Accept-clause-asks : goal.returns-in-Accept-clause-asks
returns-in-Accept-clause-asks g c st has given =
    decided_acceptance g.P.Policy.verdict_gives c.args.policy.now c.decide.new.policy st c.in-Some.request c.decide.result c.accept.result c.args.table.now.given
    (first_on st c.args.devices.now c.args.active c.in-Some.request c.in-Some.drivers has c.in-Some.ensures.first) given c.in-Accept.is c.decide.ensures.asked c.decide.ensures.unasked (c.accept.ensures.accepted (length st.records))
