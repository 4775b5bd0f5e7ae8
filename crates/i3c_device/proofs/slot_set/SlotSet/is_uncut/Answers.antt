-- The set has no slot in common with those that are cut.
use Rattle.std.proofs.Common.{◌==◌, ◌∙◌, ap}
use Rattle.std.specs.Int.{bit_at}
use Rattle.i3c_device.proofs.SetLaws.{uncut_none}
use Rattle.i3c_device.proofs.slot_set.SlotSet.is_uncut.Goals as goal

pub returns : goal.returns
returns c =
    uncut_none c.args.self c.of_bits.result c.and.result c.args.cuts.now c.is_none.result (λ s l. ap (λ bits. bit_at bits s == 1) c.of_bits.ensures ∙ c.slots.ensures s l) c.and.ensures c.is_none.ensures
