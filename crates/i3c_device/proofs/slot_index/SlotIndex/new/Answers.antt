use Rattle.std.proofs.Common.{true, is_none, refl}
use Rattle.i3c_device.specs.Addressing.{IsDynamicIn}
use Rattle.i3c_device.specs.SlotIndex.{key_in}
use Rattle.i3c_device.specs.Wishing.{wishes_interrupt, wishes_join, wishes_role}
use Rattle.i3c_device.proofs.MarkLaws.{answers_none, entries_none, columns_none, set_of_none}
use Rattle.i3c_device.proofs.slot_index.SlotIndex.new.Goals as goal

pub returns : goal.returns
returns c = record {
  present = set_of_none (λ d. true) c.none.result c.none.ensures;
  joining = set_of_none wishes_join c.none-2.result c.none-2.ensures;
  asking = set_of_none wishes_role c.none-3.result c.none-3.ensures;
  interrupting = set_of_none wishes_interrupt c.none-4.result c.none-4.ensures;
  hearing = set_of_none (λ d. d.hearing) c.none-5.result c.none-5.ensures;
  unaddressed = set_of_none (λ d. is_none d.address) c.none-6.result c.none-6.ensures;
  keys = entries_none key_in IsDynamicIn refl tt;
  answering = answers_none c.new.result c.new.ensures.none c.new.ensures.found;
  columns = columns_none c.new-2.result c.new-2.ensures.turned;
}
