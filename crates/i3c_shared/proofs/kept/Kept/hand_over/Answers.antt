use Rattle.std.proofs.Common.{◌∙◌, Some, ap, refl, sym}
use Rattle.i3c_step.specs.declared.events.Event.{Event}
use Rattle.i3c_shared.specs.Values.{BooksValue}
use Rattle.i3c_shared.proofs.Booked.{handed_booked, is_closed, one_more, unhanded_booked}
use Rattle.i3c_shared.proofs.Replies.{hand_replies}
use Rattle.i3c_shared.proofs.ToldReplies.{told_as, unhanded_as}
use Rattle.i3c_shared.proofs.Unmet.{hand_never}
use Rattle.i3c_shared.proofs.kept.Kept.hand_over.Goals as goal

pub handed-requires : goal.handed-requires
handed-requires g c = hand_replies _ c.args.to c.args.cuts _ _ c.in-Ok.ensures.1.0.makes.step

pub count-requires : goal.count-requires
count-requires g c =
    one_more c.self.inside.books c.audit.new.shares _ _ (Event.HandOver c.args.to c.args.cuts) c.in-Ok.reply (c.audit.ensures.same.1 ∙ c.audit.ensures.whole) c.self.invariant c.in-Ok.ensures.1.0 refl

pub invariant_of-self-in-Ok-handed : goal.invariant_of-self-in-Ok-handed
invariant_of-self-in-Ok-handed g c =
    c.move_to.ensures.books
    ∙ ap (λ (b : BooksValue). record b { active = c.active.result }) c.count.ensures.books
    ∙ handed_booked c.audit.new.self _ _ c.args.to c.args.cuts c.in-Ok.reply c.in-Ok-handed.served c.active.result (c.audit.ensures.same.0 ∙ c.self.invariant) c.in-Ok.ensures.1.0 c.in-Ok-handed.ensures c.active.ensures

pub invariant_of-self-in-Err : goal.invariant_of-self-in-Err
invariant_of-self-in-Err g c =
    c.count.ensures.books
    ∙ unhanded_booked c.audit.new.self _ _ c.args.to c.args.cuts c.in-Ok.reply c.in-Err.why (c.audit.ensures.same.0 ∙ c.self.invariant) c.in-Ok.ensures.1.0 c.in-Err.ensures

pub returns-in-Err-clause-never : goal.returns-in-Err-clause-never
returns-in-Err-clause-never g c =
    hand_never _ _ c.args.to c.args.cuts c.in-Ok.reply c.in-Err.why (is_closed c.self.inside.intake.log c.self.inside.books c.role.inside.shares c.audit.ensures.whole c.self.invariant c.role.invariant) c.in-Ok.ensures.1.0 c.in-Err.ensures

pub returns-in-Ok-handed-clause-told : goal.returns-in-Ok-handed-clause-told
returns-in-Ok-handed-clause-told g c =
    rw (← c.self.view_is) (told_as g.T.Tap.note_gives c.args.tap.now c.take_and_apply.new.tap c.self.inside.intake.log (Event.HandOver c.args.to c.args.cuts) c.in-Ok.reply _ c.take_and_apply.new.self.log (ap Some (sym c.in-Ok-handed.ensures)) c.in-Ok.ensures.1)

pub returns-in-Err-clause-told : goal.returns-in-Err-clause-told
returns-in-Err-clause-told g c =
    rw (← c.self.view_is) (told_as g.T.Tap.note_gives c.args.tap.now c.take_and_apply.new.tap c.self.inside.intake.log (Event.HandOver c.args.to c.args.cuts) c.in-Ok.reply _ c.take_and_apply.new.self.log (unhanded_as (record { holder = c.count.new.shares.active; frames = c.count.new.shares.frames }) c.in-Err.why c.in-Ok.reply c.in-Err.ensures) c.in-Ok.ensures.1)
