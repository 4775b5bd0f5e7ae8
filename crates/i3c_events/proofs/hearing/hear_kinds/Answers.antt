-- The devices that the command reaches, and its effect on them.
use Rattle.std.proofs.Common.{◌≡◌, ◌+◌, ◌∙◌, ℕ, Some, refl, sym, subst}
use Rattle.std.proofs.lemmas.Bool.{both_ways, false≢true}
use Rattle.std.proofs.lemmas.Option.{same_Some}
use Rattle.i3c_base.specs.declared.answers.Answer.{Answer}
use Rattle.i3c_base.specs.Cutting.{lost_by}
use Rattle.i3c_base.specs.State.{HasDevices, State, with_active}
use Rattle.i3c_base.specs.Frames.{SomeLeftAt, changed_kinds, kinds_bits}
use Rattle.i3c_device.specs.Walks.{AreReached}
use Rattle.i3c_device.proofs.SeenWalks.{heard_some}
use Rattle.i3c_events.proofs.HearingLaws.{carried_out, left_any, left_reached, reached_left, unanswered}
use Rattle.i3c_events.proofs.hearing.hear_kinds.Goals as goal
use Rattle.i3c_events.proofs.hearing.hear_kinds.Goals.{in-Some+else-not-outlasts, in_default}

none_left : (c : goal.Then-not-outlasts) (st : State) → HasDevices st c.args.devices.now c.args.active → ¬ SomeLeftAt st c.in-Some.at (lost_by c.args.cuts.now (c.args.bits_before + 18))
none_left c st has left =
    both_ways _ c.if-not-outlasts.true
    ((heard_some (with_active c.args.devices.now c.args.active) (Some c.in-Some.at) c.reached-reached.result (lost_by c.args.cuts.now (c.args.bits_before + 18)) c.outlasts.result c.reached-reached.ensures.slots
    (subst (λ to. AreReached c.args.active to c.reached-reached.result c.args.devices.now) c.in-Some.is c.reached-reached.ensures.reached) c.outlasts.ensures).1 (left_reached st c.in-Some.at (lost_by c.args.cuts.now (c.args.bits_before + 18)) c.args.devices.now c.args.active has left))

pub returns-then-not-outlasts-clause-rekinds : goal.returns-then-not-outlasts-clause-rekinds
returns-then-not-outlasts-clause-rekinds c st has =
    unanswered c.args.to c.in-Some.at (changed_kinds c.args.change c.args.kinds) st (λ to. lost_by c.args.cuts.now (c.args.bits_before + kinds_bits to (Answer.NoAnswer c.in-Some.at)))
    c.args.devices.now c.args.active has c.in-Some.is (none_left c st has)

pub returns-then-not-outlasts-clause-answered : goal.returns-then-not-outlasts-clause-answered
returns-then-not-outlasts-clause-answered c st a has e = (
  λ h. absurd (false≢true h),
  λ left. absurd (none_left c st has (subst (λ b. SomeLeftAt st b (lost_by c.args.cuts.now (c.args.bits_before + 18))) (same_Some a c.in-Some.at (sym e ∙ c.in-Some.is)) left)),
)

heard : (c : goal.After-change_kinds) (st : State) → HasDevices st c.args.devices.now c.args.active → (a : ℕ) → c.args.to ≡ Some a → SomeLeftAt st a (lost_by c.args.cuts.now (c.args.bits_before + 18))
heard c st has a e = elim c.match-to.branch [
  | in-Some+else-not-outlasts w ↦
      subst (λ b. SomeLeftAt st b (lost_by c.args.cuts.now (c.args.bits_before + 18))) (same_Some w.in-Some.at a (sym w.in-Some.is ∙ e))
      (reached_left st w.in-Some.at (lost_by c.args.cuts.now (c.args.bits_before + 18)) c.args.devices.now c.args.active has
      ((heard_some (with_active c.args.devices.now c.args.active) (Some w.in-Some.at) c.reached-reached.result (lost_by c.args.cuts.now (c.args.bits_before + 18)) w.outlasts.result c.reached-reached.ensures.slots
      (subst (λ to. AreReached c.args.active to c.reached-reached.result c.args.devices.now) w.in-Some.is c.reached-reached.ensures.reached) w.outlasts.ensures).0 w.if-not-outlasts.false))
  | in_default w ↦ absurd (w.in_default.not-Some a e)
]

pub returns-clause-rekinds : goal.returns-clause-rekinds
returns-clause-rekinds c st has =
    carried_out c.args.to (changed_kinds c.args.change c.args.kinds) st (lost_by c.args.cuts.now (c.args.bits_before + kinds_bits c.args.to Answer.Done)) c.args.devices.now c.change_kinds.new.self c.args.active has
    (c.change_kinds.ensures c.args.active c.args.to c.reached-reached.ensures.reached) (λ a e. left_any st a (lost_by c.args.cuts.now (c.args.bits_before + 18)) (heard c st has a e))

pub returns-clause-answered : goal.returns-clause-answered
returns-clause-answered c st a has e = (λ h. heard c st has a e, λ left. refl)
