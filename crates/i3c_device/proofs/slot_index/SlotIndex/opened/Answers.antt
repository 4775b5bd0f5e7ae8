use Rattle.std.proofs.Common.{None, get_or, ap, refl, subst, sym, ◌∙◌}
use Rattle.i3c_base.specs.State.{in_slot}
use Rattle.i3c_device.specs.Wishing.{wishes_interrupt}
use Rattle.i3c_device.proofs.MarkLaws.{Alike, alike_opened, interrupts_opened, marks_heard}
use Rattle.i3c_device.proofs.slot_index.SlotIndex.opened.Goals as goal

pub returns : goal.returns
returns c places long are is =
    let before = get_or places c.args.index None in
    let alike : Alike c.args.place.now before = subst (λ o. Alike o before) (sym is) (alike_opened before) in
    marks_heard c.args.self.now (record c.args.self.now { hearing = c.with-self.result }) places c.args.index c.args.place.now c.hears.result long c.requires are alike (ap (in_slot wishes_interrupt) is ∙ interrupts_opened before) c.hears.ensures refl c.with-self.ensures
