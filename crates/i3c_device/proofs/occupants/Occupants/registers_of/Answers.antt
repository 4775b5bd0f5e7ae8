-- One slot more, until none is left.
use Rattle.std.proofs.Common.{◌≡◌, ◌<◌, ◌∙◌, None, Some, arith, get_or, length, subst, sym}
use Rattle.std.proofs.lemmas.List.{get_or_default}
use Rattle.i3c_device.specs.Reading.{IsByteOf, registers_of}
use Rattle.i3c_device.proofs.ReadLaws.{byte_all}
use Rattle.i3c_device.proofs.RegisterLaws.{registers_more, registers_none, registers_same, registers_small}
use Rattle.i3c_device.proofs.occupants.Occupants.registers_of.Goals as goal

pub loop-slot-init : goal.loop-slot-init
loop-slot-init c = registers_none c.args.among c.self.inside.places

pub loop-slot-preserved-in-Some-places : goal.loop-slot-preserved-in-Some-places
loop-slot-preserved-in-Some-places c =
    let i = c.in-Some.slot in
    let low : i < length c.self.inside.places = omega (arith, c.self.invariant.0, c.in-Some.ensures.taken.0) in
    let stands : get_or c.self.inside.places i None ≡ Some c.in-Some-places.device = sym (get_or_default c.self.inside.places i c.index-self-slot.result None low) ∙ c.in-Some-places.is in
    registers_more c.args.among c.loop-slot.left c.take_lowest.new.self c.self.inside.places c.loop-slot.bytes c.pull_low.new.bytes i c.in-Some-places.device c.loop-slot.invariant c.in-Some.ensures.taken.0
    c.in-Some.ensures.taken.1 c.in-Some.ensures.taken.3 stands c.pull_low.ensures.long c.pull_low.ensures.each

pub loop-slot-preserved : goal.loop-slot-preserved
loop-slot-preserved c =
    let i = c.in-Some.slot in
    let low : i < length c.self.inside.places = omega (arith, c.self.invariant.0, c.in-Some.ensures.taken.0) in
    let none : get_or c.self.inside.places i None ≡ None = sym (get_or_default c.self.inside.places i c.index-self-slot.result None low) ∙ c.in_default-places.is in
    registers_same c.args.among c.loop-slot.left c.take_lowest.new.self c.self.inside.places c.loop-slot.bytes i c.loop-slot.invariant c.in-Some.ensures.taken.3 none

pub returns-clause-bytes : goal.returns-clause-bytes
returns-clause-bytes c = registers_small c.args.among c.loop-slot.left c.self.inside.places c.loop-slot.bytes c.loop-slot.invariant

pub returns-clause-each : goal.returns-clause-each
returns-clause-each c k at cuts l u =
    subst (λ places. IsByteOf registers_of c.args.among k cuts at places (get_or c.loop-slot.bytes k 0)) c.self.view_is
    (byte_all registers_of c.args.among c.loop-slot.left k cuts at c.self.inside.places (get_or c.loop-slot.bytes k 0) (c.loop-slot.invariant.each k at cuts l u) c.in_default.ensures.taken)
