use Rattle.std.proofs.Common.{◌∙◌, Some, ap, refl, sym}
use Rattle.i3c_step.specs.declared.events.Event.{Event}
use Rattle.i3c_shared.specs.Values.{BooksValue}
use Rattle.i3c_shared.proofs.Booked.{is_closed, one_more, opened_booked, refused_booked}
use Rattle.i3c_shared.proofs.Replies.{open_replies}
use Rattle.i3c_shared.proofs.ToldReplies.{told_as}
use Rattle.i3c_shared.proofs.Unmet.{open_never}
use Rattle.i3c_shared.proofs.kept.Kept.open_daa.Goals as goal

pub opened-requires : goal.opened-requires
opened-requires g c = open_replies _ c.args.cuts _ _ c.in-Ok.ensures.1.0.makes.step

pub count-requires : goal.count-requires
count-requires g c =
    one_more c.self.inside.books c.audit.new.shares _ _ (Event.OpenDaa c.args.cuts) c.in-Ok.reply (c.audit.ensures.same.1 ∙ c.audit.ensures.whole) c.self.invariant c.in-Ok.ensures.1.0 refl

pub invariant_of-self-in-Ok-opened : goal.invariant_of-self-in-Ok-opened
invariant_of-self-in-Ok-opened g c =
    c.open_session.ensures.books
    ∙ ap (λ (b : BooksValue). record b { session = 1 }) c.count.ensures.books
    ∙ opened_booked c.audit.new.self _ _ c.args.cuts c.in-Ok.reply c.in-Ok-opened.served (c.audit.ensures.same.0 ∙ c.self.invariant) c.in-Ok.ensures.1.0 c.in-Ok-opened.ensures

pub invariant_of-self-in-Err : goal.invariant_of-self-in-Err
invariant_of-self-in-Err g c =
    c.count.ensures.books
    ∙ refused_booked c.audit.new.self _ _ (Event.OpenDaa c.args.cuts) c.in-Ok.reply c.in-Err.why (c.audit.ensures.same.0 ∙ c.self.invariant) c.in-Ok.ensures.1.0 refl c.in-Err.ensures

pub returns-in-Err-clause-never : goal.returns-in-Err-clause-never
returns-in-Err-clause-never g c =
    open_never _ _ c.args.cuts c.in-Ok.reply c.in-Err.why (is_closed c.self.inside.intake.log c.self.inside.books c.role.inside.shares c.audit.ensures.whole c.self.invariant c.role.invariant) c.in-Ok.ensures.1.0 c.in-Err.ensures

pub returns-in-Ok-opened-clause-told : goal.returns-in-Ok-opened-clause-told
returns-in-Ok-opened-clause-told g c =
    rw (← c.self.view_is) (told_as g.T.Tap.note_gives c.args.tap.now c.take_and_apply.new.tap c.self.inside.intake.log (Event.OpenDaa c.args.cuts) c.in-Ok.reply _ c.take_and_apply.new.self.log (ap Some (sym c.in-Ok-opened.ensures)) c.in-Ok.ensures.1)

pub returns-in-Err-clause-told : goal.returns-in-Err-clause-told
returns-in-Err-clause-told g c =
    rw (← c.self.view_is) (told_as g.T.Tap.note_gives c.args.tap.now c.take_and_apply.new.tap c.self.inside.intake.log (Event.OpenDaa c.args.cuts) c.in-Ok.reply _ c.take_and_apply.new.self.log (ap Some (sym c.in-Err.ensures)) c.in-Ok.ensures.1)
