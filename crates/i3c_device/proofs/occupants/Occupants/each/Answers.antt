-- One slot more, until none is left.
use Rattle.std.proofs.Common.{◌∙◌, ◌<◌, ap, arith, length, None}
use Rattle.std.proofs.lemmas.List.{get_or_default}
use Rattle.i3c_base.specs.Places.{changed}
use Rattle.i3c_device.specs.Finding.{within}
use Rattle.i3c_device.proofs.EachLaws.{turned, walks_all, walks_more, walks_none}
use Rattle.i3c_device.proofs.occupants.Occupants.each.Goals as goal

pub loop-index-init : goal.loop-index-init
loop-index-init g c = walks_none (g.H.SlotUpdate.after c.args.update.now) c.args.among c.self.inside.marks c.self.inside.places c.self.invariant.0 c.self.invariant.1

pub loop-index-preserved : goal.loop-index-preserved
loop-index-preserved g c =
    let ys = c.loop-index.self-inside.places in
    let i = c.in-Some.index in
    let low : i < length ys = omega (arith, c.loop-index.invariant.long, c.in-Some.ensures.taken.0) in
    walks_more (g.H.SlotUpdate.after c.args.update.now) c.args.among c.loop-index.left c.take_lowest.new.self c.loop-index.self-inside.marks c.update_in.new.marks c.self.inside.places ys i c.update_in.new.place
    c.loop-index.invariant c.in-Some.ensures.taken.0 c.in-Some.ensures.taken.1 c.in-Some.ensures.taken.3
    (turned (g.H.SlotUpdate.after c.args.update.now) ys i c.index-self-index.result c.update_in.new.place low c.update_in.ensures.changed)
    (c.update_in.ensures.marked ys c.loop-index.invariant.long c.loop-index.invariant.marked (get_or_default ys i None c.index-self-index.result low))

pub invariant_of-self : goal.invariant_of-self
invariant_of-self g c = (c.loop-index.invariant.long, c.loop-index.invariant.marked)

pub returns-clause-changed : goal.returns-clause-changed
returns-clause-changed g c =
    walks_all (g.H.SlotUpdate.after c.args.update.now) c.args.among c.loop-index.left c.loop-index.self-inside.marks c.self.inside.places c.loop-index.self-inside.places c.loop-index.invariant c.self.invariant.0
    c.in_default.ensures.taken
    ∙ ap (changed (within c.args.among (g.H.SlotUpdate.after c.args.update.now))) c.self.view_is
