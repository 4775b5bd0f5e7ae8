-- Each set, of the places with the one anew.
use Rattle.std.proofs.Common.{◌<◌, true, false, length, arith, is_none, refl, None}
use Rattle.i3c_device.specs.Addressing.{IsDynamicIn}
use Rattle.i3c_device.specs.SlotIndex.{key_in}
use Rattle.i3c_device.specs.Wishing.{wishes_interrupt, wishes_join, wishes_role}
use Rattle.i3c_device.proofs.MarkLaws.{answers_of_put, entries_of_put, columns_of_gone, set_of_put}
use Rattle.i3c_device.proofs.slot_index.SlotIndex.vacated.Goals as goal

pub returns : goal.returns
returns c places long are =
    let low : c.args.index < length places = omega arith in
    let set = c.args.self.now in
    let i = c.args.index in
    record {
      present = set_of_put (λ d. true) set.present c.with-self.result places i None false low are.present refl c.with-self.ensures;
      joining = set_of_put wishes_join set.joining c.with-self-2.result places i None false low are.joining refl c.with-self-2.ensures;
      asking = set_of_put wishes_role set.asking c.with-self-3.result places i None false low are.asking refl c.with-self-3.ensures;
      interrupting = set_of_put wishes_interrupt set.interrupting c.with-self-4.result places i None false low are.interrupting refl c.with-self-4.ensures;
      hearing = set_of_put (λ d. d.hearing) set.hearing c.with-self-5.result places i None false low are.hearing refl c.with-self-5.ensures;
      unaddressed = set_of_put (λ d. is_none d.address) set.unaddressed c.with-self-6.result places i None false low are.unaddressed refl c.with-self-6.ensures;
      keys = entries_of_put key_in IsDynamicIn set.keys places i None 0 low are.keys refl tt c.requires;
      answering = answers_of_put set.answering c.set.new.self places i None _ low are.answering refl c.requires c.set.ensures.set c.set.ensures.found;
      columns = columns_of_gone set.columns places i low are.columns;
    }
