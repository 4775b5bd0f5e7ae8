-- A slot that holds somebody is one of those that are kept.
use Rattle.std.proofs.Common.{◌≡◌, ◌∙◌, ◌<◌, ap, get_or, is_some, length, None, rules, sym}
use Rattle.std.proofs.lemmas.Bool.{false≢true}
use Rattle.i3c_device.proofs.KeepLaws.{held_inside, read_at, unpacked_at}
use Rattle.i3c_device.proofs.occupants_snapshot.OccupantsSnapshot.device.Goals as goal
use Rattle.i3c_device.proofs.occupants_snapshot.OccupantsSnapshot.device.Goals.{After-index}

there : (c : After-index) → c.index.result.now ≡ get_or c.args.self.now c.args.index None
there c =
    read_at c.self.inside.places.items c.args.index c.index.result.now (held_inside c.self.inside.places.items c.args.self.now c.args.index c.self.view_is c.requires.0 c.requires.1) c.index.ensures
    ∙ (sym (unpacked_at c.self.inside.places.items c.args.index c.requires.0) ∙ ap (λ places. get_or places c.args.index None) c.self.view_is)

pub index-requires : goal.index-requires
index-requires c =
    let inside : c.args.index < length c.self.inside.places.items = held_inside c.self.inside.places.items c.args.self.now c.args.index c.self.view_is c.requires.0 c.requires.1 in
    search rules

pub unreachable-requires : goal.unreachable-requires
unreachable-requires c = false≢true (ap is_some (sym c.in-None.is ∙ there (goal.at.unreachable-requires c).After-index) ∙ c.requires.1)

pub returns : goal.returns
returns c = sym (there (goal.at.returns c).After-index) ∙ c.in-Some.is
