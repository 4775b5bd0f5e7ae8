-- What is kept for a slot, or nobody beyond what is kept.
use Rattle.std.proofs.Common.{◌∙◌, ap, sym, get_or, None, length}
use Rattle.i3c_device.proofs.KeepLaws.{beyond, length-unpacked, read_at, unpacked_at}
use Rattle.i3c_device.proofs.occupants_snapshot.OccupantsSnapshot.at.Goals as goal

pub returns-in-Some-clause-place : goal.returns-in-Some-clause-place
returns-in-Some-clause-place c =
    c.as_ref.ensures.value ∙ (read_at c.deref.result.now c.index.result c.in-Some.place.now c.in-Some.ensures.lookup.3.0 c.in-Some.ensures.lookup.1
    ∙ ((λ j. get_or (c.deref.ensures.value j) (c.index.ensures.same j) None)
    ∙ (sym (unpacked_at c.self.inside.places.items c.args.slot c.index.ensures.in_range) ∙ ap (λ places. get_or places c.args.slot None) c.self.view_is)))

pub returns-in-Some-clause-slots : goal.returns-in-Some-clause-slots
returns-in-Some-clause-slots c = sym (ap length c.self.view_is) ∙ length-unpacked c.self.inside.places.items

pub returns-in-None-clause-place : goal.returns-in-None-clause-place
returns-in-None-clause-place c =
    sym (beyond c.deref.result.now c.index.result c.in-None.ensures.lookup.3)
    ∙ ((λ j. get_or (c.deref.ensures.value j) (c.index.ensures.same j) None)
    ∙ (sym (unpacked_at c.self.inside.places.items c.args.slot c.index.ensures.in_range) ∙ ap (λ places. get_or places c.args.slot None) c.self.view_is))

pub returns-in-None-clause-slots : goal.returns-in-None-clause-slots
returns-in-None-clause-slots c = sym (ap length c.self.view_is) ∙ length-unpacked c.self.inside.places.items
