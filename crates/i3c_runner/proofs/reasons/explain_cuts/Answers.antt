use Rattle.std.proofs.Common.{◌≡◌, ◌∙◌, ◌++◌, ap, is_some}
use Rattle.i3c_base.specs.Cutting.{cut_of}
use Rattle.i3c_base.specs.State.{device_at}
use Rattle.i3c_runner.specs.Expecting.{name_in_slot}
use Rattle.i3c_runner.specs.Reasons.{slot_note}
use Rattle.i3c_runner.proofs.Reasoned.{no_slot, one_slot}
use Rattle.i3c_runner.proofs.reasons.explain_cuts.Goals as goal

pub loop-index-init : goal.loop-index-init
loop-index-init c = no_slot c.args.number c.args.bus.now.state c.args.names.now c.args.cuts.now c.args.text.now

pub loop-index-preserved : goal.loop-index-preserved
loop-index-preserved c =
    let number = c.args.number in
    let st = c.args.bus.now.state in
    let names = c.args.names.now in
    let cuts = c.args.cuts.now in
    let index = c.loop-index.index in
    let slot = c.from_index-slot.result in
    let text = c.loop-index.text in
    let new = c.explain_slot.new.text in
    let noted : new ≡ text ++ slot_note number (is_some (device_at st index)) (name_in_slot names index) (cut_of cuts index) =
    c.in_ok-explain_slot.ensures ∙ ap (λ cut. text ++ slot_note number (is_some (device_at st slot)) (name_in_slot names slot) cut) c.at.ensures
    ∙ ap (λ s. text ++ slot_note number (is_some (device_at st s)) (name_in_slot names s) (cut_of cuts s)) c.from_index-slot.ensures in
    one_slot number st names cuts index c.args.text.now text new c.loop-index.invariant noted
