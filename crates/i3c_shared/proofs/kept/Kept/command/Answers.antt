use Rattle.std.proofs.Common.{◌∙◌, refl, inr}
use Rattle.i3c_step.specs.Giving.{given_by}
use Rattle.i3c_shared.proofs.Booked.{command_booked, is_closed, one_more}
use Rattle.i3c_shared.proofs.Steady.{commands_are_frames}
use Rattle.i3c_shared.proofs.Unmet.{command_never}
use Rattle.i3c_shared.proofs.kept.Kept.command.Goals as goal

pub count-requires : goal.count-requires
count-requires g c =
    one_more c.self.inside.books c.audit.new.shares _ _ _ c.in-Ok.reply (c.audit.ensures.same.1 ∙ c.audit.ensures.whole) c.self.invariant c.in-Ok.ensures.1.0 (commands_are_frames c.args.command (given_by c.in-Ok.reply) c.args.cuts)

pub invariant_of-self-2 : goal.invariant_of-self-2
invariant_of-self-2 g c =
    c.count.ensures.books
    ∙ command_booked c.audit.new.self _ _ c.args.command (given_by c.in-Ok.reply) c.args.cuts c.in-Ok.reply (c.audit.ensures.same.0 ∙ c.self.invariant) c.in-Ok.ensures.1.0

pub returns-clause-never : goal.returns-clause-never
returns-clause-never g c =
    command_never _ _ c.args.command (given_by c.in-Ok.reply) c.args.cuts c.in-Ok.reply (is_closed c.self.inside.intake.log c.self.inside.books c.role.inside.shares c.audit.ensures.whole c.self.invariant c.role.invariant) c.in-Ok.ensures.1.0

pub returns-clause-sent : goal.returns-clause-sent
returns-clause-sent g c = rw (← c.self.view_is) (inr (c.in-Ok.ensures.0, (c.in-Ok.ensures.1.0, c.in-Ok.ensures.1.1), refl))

pub returns-clause-told : goal.returns-clause-told
returns-clause-told g c = rw (← c.self.view_is) (inr (c.in-Ok.ensures.1.0, c.in-Ok.ensures.1.2))
