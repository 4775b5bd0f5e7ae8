use Rattle.std.proofs.Common.{◌∙◌, ap, refl}
use Rattle.i3c_step.specs.declared.events.Event.{Event}
use Rattle.i3c_shared.specs.Values.{BooksValue}
use Rattle.i3c_shared.proofs.Booked.{ended_booked, is_opened, one_more, refused_booked}
use Rattle.i3c_shared.proofs.Replies.{end_replies}
use Rattle.i3c_shared.proofs.Unmet.{end_never}
use Rattle.i3c_shared.proofs.kept.Kept.end.Goals as goal

pub ended-requires : goal.ended-requires
ended-requires g c = end_replies _ _ _ c.in-Ok.ensures.1.0.makes.step

pub count-requires : goal.count-requires
count-requires g c =
    one_more c.self.inside.books c.audit.new.shares _ _ Event.EndDaa c.in-Ok.reply (c.audit.ensures.same.1 ∙ c.audit.ensures.whole) c.self.invariant c.in-Ok.ensures.1.0 refl

pub invariant_of-self-in-Ok-ended : goal.invariant_of-self-in-Ok-ended
invariant_of-self-in-Ok-ended g c =
    c.end_session.ensures.books
    ∙ ap (λ (b : BooksValue). record b { session = 0 }) c.count.ensures.books
    ∙ ended_booked c.audit.new.self _ _ c.in-Ok.reply (c.audit.ensures.same.0 ∙ c.self.invariant) c.in-Ok.ensures.1.0 c.in-Ok-ended.ensures

pub invariant_of-self-in-Err : goal.invariant_of-self-in-Err
invariant_of-self-in-Err g c =
    c.count.ensures.books
    ∙ refused_booked c.audit.new.self _ _ Event.EndDaa c.in-Ok.reply c.in-Err.why (c.audit.ensures.same.0 ∙ c.self.invariant) c.in-Ok.ensures.1.0 refl c.in-Err.ensures

pub returns-in-Err-clause-never : goal.returns-in-Err-clause-never
returns-in-Err-clause-never g c =
    end_never _ _ c.in-Ok.reply c.in-Err.why (is_opened c.self.inside.intake.log c.self.inside.books c.session.inside.shares c.audit.ensures.whole c.self.invariant c.session.invariant) c.in-Ok.ensures.1.0 c.in-Err.ensures
