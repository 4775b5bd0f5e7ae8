-- It joins no more, hears no more and has an address; the other sets are of the places with the one anew.
use Rattle.std.proofs.Common.{◌≡◌, ◌∙◌, ◌<◌, ℕ, Bool, true, false, length, arith, ap, get_or, is_none, refl, sym, Option, Some, None, option_map}
use Rattle.i3c_base.specs.Round.{winner}
use Rattle.i3c_base.specs.State.{Device, in_slot}
use Rattle.i3c_device.specs.Addressing.{IsDynamicIn}
use Rattle.i3c_device.specs.Holding.{identity_in}
use Rattle.i3c_device.specs.SlotIndex.{key_in}
use Rattle.i3c_device.specs.Wishing.{wishes_interrupt, wishes_join, wishes_role}
use Rattle.i3c_device.proofs.MarkLaws.{answers_of_put, entries_of_put, columns_of_same, set_of_put, set_of_same}
use Rattle.i3c_device.proofs.slot_index.SlotIndex.won.Goals as goal

same : {A : Type 0} (f : Option Device → A) (address : ℕ) (before : Option Device) → ((d : Device) → f (Some (winner address d)) ≡ f (Some d)) → f (option_map (winner address) before) ≡ f before
same f address None h = refl
same f address (Some d) h = h d

never : (test : Device → Bool) (address : ℕ) (before : Option Device) → ((d : Device) → test (winner address d) ≡ false) → in_slot test (option_map (winner address) before) ≡ false
never test address None h = refl
never test address (Some d) h = h d

pub returns : goal.returns
returns c places address long are is =
    let low : c.args.index < length places = omega arith in
    let set = c.args.self.now in
    let i = c.args.index in
    let place = c.args.place.now in
    let before = get_or places i None in
    let gone : (test : Device → Bool) → ((d : Device) → test (winner address d) ≡ false) → false ≡ in_slot test place = λ test h. sym (ap (in_slot test) is ∙ never test address before h) in
    record {
      present = set_of_same (λ d. true) set.present places i place low are.present (ap (in_slot (λ d. true)) is ∙ same (in_slot (λ d. true)) address before (λ d. refl));
      joining = set_of_put wishes_join set.joining c.with-self.result places i place false low are.joining (gone wishes_join (λ d. refl)) c.with-self.ensures;
      asking = set_of_put wishes_role set.asking c.with-self-2.result places i place c.wishes_role.result low are.asking c.wishes_role.ensures c.with-self-2.ensures;
      interrupting = set_of_put wishes_interrupt set.interrupting c.with-self-3.result places i place c.wishes_interrupt.result low are.interrupting c.wishes_interrupt.ensures c.with-self-3.ensures;
      hearing = set_of_put (λ d. d.hearing) set.hearing c.with-self-4.result places i place false low are.hearing (gone (λ d. d.hearing) (λ d. refl)) c.with-self-4.ensures;
      unaddressed = set_of_put (λ d. is_none d.address) set.unaddressed c.with-self-5.result places i place false low are.unaddressed (gone (λ d. is_none d.address) (λ d. refl)) c.with-self-5.ensures;
      keys = entries_of_put key_in IsDynamicIn set.keys places i place c.key_in.result low are.keys c.key_in.ensures.key c.key_in.ensures.dynamic c.requires;
      answering = answers_of_put set.answering c.set.new.self places i place c.answer_in.result low are.answering c.answer_in.ensures c.requires c.set.ensures.set c.set.ensures.found;
      columns = columns_of_same set.columns places i place low are.columns (ap identity_in is ∙ same identity_in address before (λ d. refl));
    }
