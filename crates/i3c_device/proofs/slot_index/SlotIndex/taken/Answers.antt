-- Each set, of the places with the one anew.
use Rattle.std.proofs.Common.{◌∙◌, ◌<◌, true, length, ap, arith, is_none, refl, slice_set, subst, Some}
use Rattle.i3c_base.specs.Numbers.{IsInRange, number_of}
use Rattle.i3c_device.specs.Addressing.{IsDynamicIn}
use Rattle.i3c_device.specs.SlotIndex.{key_in}
use Rattle.i3c_device.specs.Wishing.{wishes_interrupt, wishes_join, wishes_role}
use Rattle.i3c_device.proofs.MarkLaws.{answers_of_put, entries_of_put, columns_of_put, set_of_put}
use Rattle.i3c_device.proofs.slot_index.SlotIndex.taken.Goals as goal

pub returns : goal.returns
returns c places long are =
    let low : c.args.index < length places = omega arith in
    let set = c.args.self.now in
    let i = c.args.index in
    let place = Some c.args.device.now in
    record {
      present = set_of_put (λ d. true) set.present c.with-self.result places i place true low are.present refl c.with-self.ensures;
      joining = set_of_put wishes_join set.joining c.with-self-2.result places i place c.wishes_join.result low are.joining c.wishes_join.ensures c.with-self-2.ensures;
      asking = set_of_put wishes_role set.asking c.with-self-3.result places i place c.wishes_role.result low are.asking c.wishes_role.ensures c.with-self-3.ensures;
      interrupting = set_of_put wishes_interrupt set.interrupting c.with-self-4.result places i place c.wishes_interrupt.result low are.interrupting c.wishes_interrupt.ensures c.with-self-4.ensures;
      hearing = set_of_put (λ d. d.hearing) set.hearing c.with-self-5.result places i place c.is_hearing.result low are.hearing c.is_hearing.ensures c.with-self-5.ensures;
      unaddressed = set_of_put (λ d. is_none d.address) set.unaddressed c.with-self-6.result places i place c.is_unaddressed.result low are.unaddressed c.is_unaddressed.ensures c.with-self-6.ensures;
      keys = entries_of_put key_in IsDynamicIn set.keys places i place c.key.result low are.keys c.key.ensures.key c.key.ensures.dynamic c.requires;
      answering = answers_of_put set.answering c.set.new.self places i place c.answer.result low are.answering c.answer.ensures c.requires c.set.ensures.set c.set.ensures.found;
      columns =
          columns_of_put set.columns c.set-2.new.self places i c.args.device.now c.number.result low are.columns (c.number.ensures.same ∙ ap number_of c.identity.ensures) (subst IsInRange c.identity.ensures c.number.ensures.in_range) c.requires (c.set-2.ensures.set ∙ ap (λ k. slice_set set.columns.numbers k c.number.result) c.from_index.ensures) c.set-2.ensures.turned;
    }
