-- The devices that take the new address: none if no device is left to acknowledge.
use Rattle.std.proofs.Common.{◌+◌, refl}
use Rattle.std.proofs.lemmas.Bool.{both_ways, false≢true}
use Rattle.i3c_base.specs.Cutting.{lost_by}
use Rattle.i3c_base.specs.Frames.{SomeUnaddressedLeftAt, takes_static}
use Rattle.i3c_base.specs.Round.{winner}
use Rattle.i3c_base.specs.State.{HasDevices, State, with_active}
use Rattle.i3c_device.proofs.SeenWalks.{passing_changed, takes_some}
use Rattle.i3c_events.proofs.HearingLaws.{all_unaddressed_lost, any_unaddressed, left_takes, takes_left}
use Rattle.i3c_events.proofs.setting.hear_static.Goals as goal

none_left : (c : goal.Then-not-outlasts) (st : State) → HasDevices st c.args.devices.now c.args.active → ¬ SomeUnaddressedLeftAt st c.args.fixed (lost_by c.args.cuts.now (c.args.bits_before + 18))
none_left c st has left =
    both_ways _ c.if-not-outlasts.true
    ((takes_some (with_active c.args.devices.now c.args.active) c.args.fixed c.unaddressed_at-takers.result (lost_by c.args.cuts.now (c.args.bits_before + 18)) c.outlasts.result c.unaddressed_at-takers.ensures.slots
    c.unaddressed_at-takers.ensures.takers c.outlasts.ensures).1
    (left_takes st c.args.fixed (lost_by c.args.cuts.now (c.args.bits_before + 18)) c.args.devices.now c.args.active has left))

some_left : (c : goal.After-take_address) (st : State) → HasDevices st c.args.devices.now c.args.active → SomeUnaddressedLeftAt st c.args.fixed (lost_by c.args.cuts.now (c.args.bits_before + 18))
some_left c st has =
    takes_left st c.args.fixed (lost_by c.args.cuts.now (c.args.bits_before + 18)) c.args.devices.now c.args.active has
    ((takes_some (with_active c.args.devices.now c.args.active) c.args.fixed c.unaddressed_at-takers.result (lost_by c.args.cuts.now (c.args.bits_before + 18)) c.outlasts.result c.unaddressed_at-takers.ensures.slots
    c.unaddressed_at-takers.ensures.takers c.outlasts.ensures).0 c.if-not-outlasts.false)

pub returns-then-not-outlasts-clause-set : goal.returns-then-not-outlasts-clause-set
returns-then-not-outlasts-clause-set c st has = (refl, all_unaddressed_lost st c.args.fixed (lost_by c.args.cuts.now (c.args.bits_before + 18)) (none_left c st has), refl)

pub returns-then-not-outlasts-clause-answered : goal.returns-then-not-outlasts-clause-answered
returns-then-not-outlasts-clause-answered c st has = (λ h. absurd (false≢true h), λ left. absurd (none_left c st has left))

pub returns-clause-set : goal.returns-clause-set
returns-clause-set c st has = (
  any_unaddressed st c.args.fixed (lost_by c.args.cuts.now (c.args.bits_before + 18)) (some_left c st has),
  passing_changed (winner c.args.new) (takes_static c.args.active c.args.fixed) c.unaddressed_at-takers.result c.args.devices.now c.take_address.new.self c.unaddressed_at-takers.ensures.slots
      c.unaddressed_at-takers.ensures.takers c.take_address.ensures,
)

pub returns-clause-answered : goal.returns-clause-answered
returns-clause-answered c st has = (λ h. some_left c st has, λ left. refl)
