use Rattle.std.proofs.Common.{◌∙◌, ap, sym, get_or, None, is_some, length}
use Rattle.i3c_device.proofs.KeepLaws.{length-unpacked, unpacked_at}
use Rattle.i3c_device.proofs.occupants_snapshot.OccupantsSnapshot.present.Goals as goal

pub returns-clause-present : goal.returns-clause-present
returns-clause-present c s l =
    c.self.invariant.1 s l ∙ ap is_some (sym (unpacked_at c.self.inside.places.items s l) ∙ ap (λ places. get_or places s None) c.self.view_is)

pub returns-clause-slots : goal.returns-clause-slots
returns-clause-slots c = sym (ap length c.self.view_is) ∙ length-unpacked c.self.inside.places.items
