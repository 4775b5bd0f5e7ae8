-- The devices with the new address: none if no device is left to acknowledge.
use Rattle.std.proofs.Common.{◌+◌, Some, refl}
use Rattle.std.proofs.lemmas.Bool.{both_ways, false≢true}
use Rattle.i3c_base.specs.Cutting.{lost_by}
use Rattle.i3c_base.specs.Frames.{SomeLeftAt, readdressed, reaches_at}
use Rattle.i3c_base.specs.State.{HasDevices, State, with_active}
use Rattle.i3c_device.proofs.SeenWalks.{heard_some, passing_changed}
use Rattle.i3c_events.proofs.HearingLaws.{all_lost, left_any, left_reached, reached_left}
use Rattle.i3c_events.proofs.setting.hear_new.Goals as goal

none_left : (c : goal.Then-not-outlasts) (st : State) → HasDevices st c.args.devices.now c.args.active → ¬ SomeLeftAt st c.args.old (lost_by c.args.cuts.now (c.args.bits_before + 18))
none_left c st has left =
    both_ways _ c.if-not-outlasts.true
    ((heard_some (with_active c.args.devices.now c.args.active) (Some c.args.old) c.reached-targets.result (lost_by c.args.cuts.now (c.args.bits_before + 18)) c.outlasts.result c.reached-targets.ensures.slots
    c.reached-targets.ensures.reached c.outlasts.ensures).1
    (left_reached st c.args.old (lost_by c.args.cuts.now (c.args.bits_before + 18)) c.args.devices.now c.args.active has left))

some_left : (c : goal.After-readdress) (st : State) → HasDevices st c.args.devices.now c.args.active → SomeLeftAt st c.args.old (lost_by c.args.cuts.now (c.args.bits_before + 18))
some_left c st has =
    reached_left st c.args.old (lost_by c.args.cuts.now (c.args.bits_before + 18)) c.args.devices.now c.args.active has
    ((heard_some (with_active c.args.devices.now c.args.active) (Some c.args.old) c.reached-targets.result (lost_by c.args.cuts.now (c.args.bits_before + 18)) c.outlasts.result c.reached-targets.ensures.slots
    c.reached-targets.ensures.reached c.outlasts.ensures).0 c.if-not-outlasts.false)

pub returns-then-not-outlasts-clause-set : goal.returns-then-not-outlasts-clause-set
returns-then-not-outlasts-clause-set c st has = (refl, all_lost st c.args.old (lost_by c.args.cuts.now (c.args.bits_before + 18)) (none_left c st has), refl)

pub returns-then-not-outlasts-clause-answered : goal.returns-then-not-outlasts-clause-answered
returns-then-not-outlasts-clause-answered c st has = (λ h. absurd (false≢true h), λ left. absurd (none_left c st has left))

pub returns-clause-set : goal.returns-clause-set
returns-clause-set c st has = (
  left_any st c.args.old (lost_by c.args.cuts.now (c.args.bits_before + 18)) (some_left c st has),
  passing_changed (readdressed c.args.new) (reaches_at c.args.active (Some c.args.old)) c.reached-targets.result c.args.devices.now c.readdress.new.self c.reached-targets.ensures.slots
      c.reached-targets.ensures.reached c.readdress.ensures,
)

pub returns-clause-answered : goal.returns-clause-answered
returns-clause-answered c st has = (λ h. some_left c st has, λ left. refl)
