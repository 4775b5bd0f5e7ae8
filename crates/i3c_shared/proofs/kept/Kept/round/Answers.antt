use Rattle.std.proofs.Common.{◌≡◌, ◌∙◌, true, Some, ap, refl, rules, sym}
use Rattle.i3c_step.specs.declared.events.Event.{Event}
use Rattle.i3c_shared.specs.Telling.{round_reply}
use Rattle.i3c_shared.proofs.Booked.{is_opened, one_more, round_booked}
use Rattle.i3c_shared.proofs.Replies.{round_replies}
use Rattle.i3c_shared.proofs.ToldReplies.{told_as}
use Rattle.i3c_shared.proofs.Unmet.{round_never}
use Rattle.i3c_shared.proofs.kept.Kept.round.Goals.{in-Ok-rounded, in-Err}
use Rattle.i3c_shared.proofs.kept.Kept.round.Goals as goal

pub rounded-requires : goal.rounded-requires
rounded-requires g c = round_replies _ c.args.cuts _ _ c.in-Ok.ensures.1.0.makes.step

pub count-requires : goal.count-requires
count-requires g c =
    one_more c.self.inside.books c.audit.new.shares _ _ (Event.Round c.args.cuts) c.in-Ok.reply (c.audit.ensures.same.1 ∙ c.audit.ensures.whole) c.self.invariant c.in-Ok.ensures.1.0 refl

pub invariant_of-self-2 : goal.invariant_of-self-2
invariant_of-self-2 g c =
    c.count.ensures.books ∙ round_booked c.audit.new.self _ _ c.args.cuts c.in-Ok.reply (c.audit.ensures.same.0 ∙ c.self.invariant) c.in-Ok.ensures.1.0

pub returns-clause-rounds : goal.returns-clause-rounds
returns-clause-rounds g c = search rules

pub returns-clause-told : goal.returns-clause-told
returns-clause-told g c =
    let told = told_as g.T.Tap.note_gives c.args.tap.now c.take_and_apply.new.tap c.self.inside.intake.log (Event.Round c.args.cuts) c.in-Ok.reply (round_reply c.match-rounded.result) c.take_and_apply.new.self.log in
    rw (← c.self.view_is) (elim c.match-rounded.branch [
      | in-Ok-rounded w ↦ told (ap round_reply w.result-is ∙ ap Some (sym w.in-Ok-rounded.ensures)) c.in-Ok.ensures.1
      | in-Err w ↦ told (ap round_reply w.result-is ∙ ap Some (sym w.in-Err.ensures)) c.in-Ok.ensures.1
    ])

pub returns-clause-never : goal.returns-clause-never
returns-clause-never g c =
    let is_open : c.self.inside.intake.log.state.in_session ≡ true = is_opened c.self.inside.intake.log c.self.inside.books c.session.inside.shares c.audit.ensures.whole c.self.invariant c.session.invariant in
    elim c.match-rounded.branch [
      | in-Ok-rounded w ↦ λ met. (cc (w.result-is, met))
      | in-Err w ↦ λ met. round_never _ _ c.args.cuts c.in-Ok.reply w.in-Err.why is_open c.in-Ok.ensures.1.0 w.in-Err.ensures (cc (w.result-is, met))
    ]
