use Rattle.std.proofs.Common.{None, get_or, ap, refl, subst, sym, ◌∙◌}
use Rattle.i3c_base.specs.State.{in_slot}
use Rattle.i3c_device.proofs.MarkLaws.{Alike, alike_queued, hearing_queued, marks_queued}
use Rattle.i3c_device.proofs.slot_index.SlotIndex.queued.Goals as goal

pub returns : goal.returns
returns c places place queue long are is wished =
    let before = get_or places c.args.index None in
    let alike : Alike place before = subst (λ o. Alike o before) (sym is) (alike_queued queue before) in
    marks_queued c.args.self.now (record c.args.self.now { interrupting = c.with-self.result }) places c.args.index place c.args.interrupts long c.requires are alike (ap (in_slot (λ d. d.hearing)) is ∙ hearing_queued queue before) wished refl c.with-self.ensures
