-- One slot more, until none is left.
use Rattle.std.proofs.Common.{◌<◌, ◌∙◌, None, ap, arith, get_or, length, subst}
use Rattle.std.proofs.lemmas.List.{get_or_default}
use Rattle.i3c_base.specs.Cutting.{cut_of}
use Rattle.i3c_device.specs.Reading.{IsByteFrom, IsByteOf}
use Rattle.i3c_device.proofs.ReadLaws.{byte_all, byte_more, byte_none}
use Rattle.i3c_device.proofs.occupants.Occupants.byte_of.Goals as goal

pub loop-slot-init : goal.loop-slot-init
loop-slot-init g c = byte_none (g.D.Driven.bytes c.args.driven.now) c.args.among c.args.index c.args.cuts.now c.args.at c.self.inside.places

pub loop-slot-preserved : goal.loop-slot-preserved
loop-slot-preserved g c =
    let own = g.D.Driven.bytes c.args.driven.now in
    let i = c.in-Some.slot in
    let low : i < length c.self.inside.places = omega (arith, c.self.invariant.0, c.in-Some.ensures.taken.0) in
    byte_more own c.args.among c.loop-slot.left c.take_lowest.new.self c.args.index c.args.cuts.now c.args.at c.self.inside.places c.loop-slot.byte i c.byte_from-byte.result c.loop-slot.invariant
    c.in-Some.ensures.taken.0 c.in-Some.ensures.taken.1 c.in-Some.ensures.taken.3
    (subst (λ place. IsByteFrom own place c.args.index (cut_of c.args.cuts.now i) c.args.at c.byte_from-byte.result) (get_or_default c.self.inside.places i c.index-self-slot.result None low)
    (subst (λ cut. IsByteFrom own (get_or c.self.inside.places i c.index-self-slot.result) c.args.index cut c.args.at c.byte_from-byte.result) (c.at-cut.ensures ∙ ap (cut_of c.args.cuts.now) c.from_index.ensures) c.byte_from-byte.ensures))

pub returns : goal.returns
returns g c =
    subst (λ places. IsByteOf (g.D.Driven.bytes c.args.driven.now) c.args.among c.args.index c.args.cuts.now c.args.at places c.loop-slot.byte) c.self.view_is
    (byte_all (g.D.Driven.bytes c.args.driven.now) c.args.among c.loop-slot.left c.args.index c.args.cuts.now c.args.at c.self.inside.places c.loop-slot.byte c.loop-slot.invariant c.in_default.ensures.taken)
