-- One more of the slots whose bytes are read.
use Rattle.std.proofs.Common.{◌≡◌, ◌∙◌, Some, None, option_map, ap, get_or, sym}
use Rattle.i3c_base.specs.Cutting.{cut_of}
use Rattle.i3c_ibi.specs.Driving.{driven, slot_byte}
use Rattle.i3c_ibi.proofs.ReadingLaws.{read_as}
use Rattle.i3c_ibi.proofs.Scans.{other_byte, others_less, together_all, together_and, together_skip}
use Rattle.i3c_ibi.proofs.readings.byte_read.Goals as goal

pub loop-index-preserved-in-Some-byte_of : goal.loop-index-preserved-in-Some-byte_of
loop-index-preserved-in-Some-byte_of c =
    let i = c.in-Some.index in
    let taken = c.in-Some.ensures.taken in
    let place = get_or c.args.devices.now i None in
    let drove : c.driven-both-in-Some-byte_of.result ≡ driven (cut_of c.args.cuts.now i) c.in-Some-byte_of.byte =
    c.driven-both-in-Some-byte_of.ensures ∙ ap (λ cut. driven cut c.in-Some-byte_of.byte) (c.at-in-Some-byte_of.ensures ∙ ap (cut_of c.args.cuts.now) c.from_index-slot.ensures) in
    let seen = other_byte c.args.cuts.now c.args.drivers c.args.lowest i place c.byte_of-in-Some.result (c.loop-index.invariant.0.each i taken.0 taken.1) (c.byte_of-in-Some.ensures ∙ ap (λ s. slot_byte (get_or c.args.devices.now s None)) c.from_index-slot.ensures) in (
      others_less c.args.drivers c.loop-index.left c.take_lowest.new.self c.args.lowest i c.loop-index.invariant.0 taken.3,
      together_and _ _ i c.loop-index.both c.driven-both-in-Some-byte_of.result c.loop-index.left c.take_lowest.new.self c.loop-index.invariant.1 taken.0 taken.3
          (seen ∙ (ap (option_map (driven (cut_of c.args.cuts.now i))) c.in-Some-byte_of.is ∙ ap Some (sym drove))),
    )

pub loop-index-preserved : goal.loop-index-preserved
loop-index-preserved c =
    let i = c.in-Some.index in
    let taken = c.in-Some.ensures.taken in
    let place = get_or c.args.devices.now i None in
    let seen = other_byte c.args.cuts.now c.args.drivers c.args.lowest i place c.byte_of-in-Some.result (c.loop-index.invariant.0.each i taken.0 taken.1) (c.byte_of-in-Some.ensures ∙ ap (λ s. slot_byte (get_or c.args.devices.now s None)) c.from_index-slot.ensures) in (
      others_less c.args.drivers c.loop-index.left c.take_lowest.new.self c.args.lowest i c.loop-index.invariant.0 taken.3,
      together_skip _ _ i c.loop-index.both c.loop-index.left c.take_lowest.new.self c.loop-index.invariant.1 taken.0 taken.3 (seen ∙ ap (option_map (driven (cut_of c.args.cuts.now i))) c.in-None.is),
    )

pub returns-clause-read : goal.returns-clause-read
returns-clause-read c =
    read_as c.args.devices.now c.args.cuts.now c.args.drivers c.args.lowest c.in_ok-own.own c.loop-index.both (sym c.byte_of.ensures ∙ c.in_ok-own.was)
    (together_all _ _ c.loop-index.both c.loop-index.left c.loop-index.invariant.1 c.in_default.ensures.taken)
