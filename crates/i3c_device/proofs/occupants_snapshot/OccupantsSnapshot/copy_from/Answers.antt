-- The places up to the last device are copied, and beyond it there is nobody.
use Rattle.std.proofs.Common.{◌≡◌, ◌<◌, ◌≤◌, ◌∙◌, ℕ, None, arith, ap, get_or, is_some, length, take}
use Rattle.std.proofs.lemmas.List.{length-take-le, with_items_is}
use Rattle.std.specs.Vec.{with_items}
use Rattle.i3c_base.specs.declared.range.TheConstants.{SLOTS}
use Rattle.i3c_device.specs.Keeping.{unpacked}
use Rattle.i3c_device.specs.Sets.{has}
use Rattle.i3c_device.proofs.KeepLaws.{fronted}
use Rattle.i3c_device.proofs.occupants_snapshot.OccupantsSnapshot.copy_from.Goals as goal
use Rattle.i3c_device.proofs.occupants_snapshot.OccupantsSnapshot.copy_from.Goals.{After-copy_all}

few : (c : After-copy_all) → c.len-count.result ≤ SLOTS
few c = omega (arith, c.len-count.ensures, c.deref_mut.ensures.len, ap length c.deref_mut.ensures.value, c.lengthen.ensures.most)

cut : (c : After-copy_all) → (with_items c.lengthen.new.places c.copy_all.new.places).items ≡ take c.len-count.result c.args.occupants.now
cut c =
    with_items_is c.lengthen.new.places c.copy_all.new.places
    (ap length c.copy_all.ensures ∙ (length-take-le c.len-count.result c.places.result.now (omega (arith, few c, ap length c.places.ensures.places, c.places.ensures.slots)) ∙ c.len-count.ensures))
    ∙ (c.copy_all.ensures ∙ ap (take c.len-count.result) c.places.ensures.places)

front : (c : After-copy_all) → (length (with_items c.lengthen.new.places c.copy_all.new.places).items ≤ SLOTS)
    × ((s : ℕ) → s < SLOTS → has c.marks.result.now.present s ≡ is_some (get_or (with_items c.lengthen.new.places c.copy_all.new.places).items s None))
    × (unpacked (with_items c.lengthen.new.places c.copy_all.new.places).items ≡ c.args.occupants.now)
front c =
    fronted c.len-count.result c.args.occupants.now (with_items c.lengthen.new.places c.copy_all.new.places).items c.marks.result.now.present c.marks.ensures.slots (few c)
    c.marks.ensures.marks.present (λ s l after. c.span.ensures.all s l (omega (arith, after, c.in_ok-lengthen.ensures.long, c.len-count.ensures, c.deref_mut.ensures.len, ap length c.deref_mut.ensures.value))) (cut c)

pub invariant_of-self-2 : goal.invariant_of-self-2
invariant_of-self-2 c = let h = front (goal.at.invariant_of-self-2 c).After-copy_all in (h.0, h.1)

pub returns-clause-copied : goal.returns-clause-copied
returns-clause-copied c = (front (goal.at.returns-clause-copied c).After-copy_all).2
