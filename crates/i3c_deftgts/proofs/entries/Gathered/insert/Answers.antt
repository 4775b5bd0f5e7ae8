use Rattle.std.proofs.Common.{◌<◌, length, get_or, false, not, arith, ap, sym, ◌∙◌}
use Rattle.i3c_deftgts.specs.Entries.{address_of}
use Rattle.i3c_deftgts.proofs.GatheringLaws.{marked_more, marked_room, unmarked}
use Rattle.i3c_deftgts.proofs.entries.Gathered.insert.Goals as goal

pub push-requires : goal.push-requires
push-requires c =
    let is = c.address.ensures.same in
    let fresh = unmarked (get_or c.self.inside.marks c.address.result false) (sym c.if-not-mark.false ∙ c.mark.ensures.fresh) in
    let room : length c.self.inside.entries.items < 128 = marked_room c.self.inside.marks c.self.inside.entries.items c.address.result c.self.invariant c.mark.ensures.in_range fresh in
    (omega arith, room)

pub invariant_of-self-2 : goal.invariant_of-self-2
invariant_of-self-2 c =
    let is = c.address.ensures.same in
    let fresh = unmarked (get_or c.self.inside.marks (address_of c.args.entry) false) (sym c.if-not-mark.false ∙ (c.mark.ensures.fresh ∙ ap (λ a. not (get_or c.self.inside.marks a false)) is)) in
    rw (c.push.ensures.items, c.mark.ensures.marked, is) (marked_more c.self.inside.marks c.self.inside.entries.items c.args.entry c.self.invariant (rw is at c.mark.ensures.in_range) fresh)
