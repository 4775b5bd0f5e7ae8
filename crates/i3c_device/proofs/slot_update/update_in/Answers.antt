-- What happens is noted, and where nothing happens all is as it was.
use Rattle.std.proofs.Common.{◌≡◌, ◌∙◌, None, ap, set, subst, sym}
use Rattle.std.proofs.lemmas.List.{set-get_or}
use Rattle.i3c_device.specs.SlotIndex.{AreMarks}
use Rattle.i3c_device.proofs.slot_update.update_in.Goals as goal

pub returns-then-concerns-clause-changed : goal.returns-then-concerns-clause-changed
returns-then-concerns-clause-changed g c = c.apply.ensures

pub returns-then-concerns-clause-marked : goal.returns-then-concerns-clause-marked
returns-then-concerns-clause-marked g c places long are is = c.noted.ensures places long are (c.apply.ensures ∙ ap (g.H.SlotUpdate.after c.args.update.now c.args.index) (sym is))

pub returns-else-concerns-clause-changed : goal.returns-else-concerns-clause-changed
returns-else-concerns-clause-changed g c = sym (c.concerns.ensures c.if-concerns.false)

pub returns-else-concerns-clause-marked : goal.returns-else-concerns-clause-marked
returns-else-concerns-clause-marked g c places long are is =
    let kept : set places c.args.index c.args.place.now ≡ places = ap (set places c.args.index) (sym is) ∙ set-get_or places c.args.index None in
    subst (AreMarks c.args.marks.now) (sym kept) are
