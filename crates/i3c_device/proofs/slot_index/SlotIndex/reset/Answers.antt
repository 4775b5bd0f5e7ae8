-- It has no address, and none of the wishes that need one; it hears as it did.
use Rattle.std.proofs.Common.{◌≡◌, ◌∙◌, ◌<◌, Bool, true, false, length, arith, ap, get_or, is_none, is_some, refl, sym, Option, Some, None, option_map}
use Rattle.i3c_base.specs.Frames.{unaddressed_device}
use Rattle.i3c_base.specs.State.{Device, in_slot}
use Rattle.i3c_device.specs.Addressing.{IsDynamicIn}
use Rattle.i3c_device.specs.Holding.{identity_in}
use Rattle.i3c_device.specs.SlotIndex.{key_in}
use Rattle.i3c_device.specs.Wishing.{wishes_interrupt, wishes_join, wishes_role}
use Rattle.i3c_device.proofs.MarkLaws.{answers_of_put, entries_of_put, columns_of_same, set_of_put, set_of_same}
use Rattle.i3c_device.proofs.slot_index.SlotIndex.reset.Goals as goal

same : {A : Type 0} (f : Option Device → A) (before : Option Device) → ((d : Device) → f (Some (unaddressed_device d)) ≡ f (Some d)) → f (option_map unaddressed_device before) ≡ f before
same f None h = refl
same f (Some d) h = h d

never : (test : Device → Bool) (before : Option Device) → ((d : Device) → test (unaddressed_device d) ≡ false) → in_slot test (option_map unaddressed_device before) ≡ false
never test None h = refl
never test (Some d) h = h d

lacks : (before : Option Device) → is_some (option_map unaddressed_device before) ≡ in_slot (λ d. is_none d.address) (option_map unaddressed_device before)
lacks None = refl
lacks (Some d) = refl

pub returns : goal.returns
returns c places long are is =
    let low : c.args.index < length places = omega arith in
    let set = c.args.self.now in
    let i = c.args.index in
    let place = c.args.place.now in
    let before = get_or places i None in
    let gone : (test : Device → Bool) → ((d : Device) → test (unaddressed_device d) ≡ false) → false ≡ in_slot test place = λ test h. sym (ap (in_slot test) is ∙ never test before h) in
    record {
      present = set_of_same (λ d. true) set.present places i place low are.present (ap (in_slot (λ d. true)) is ∙ same (in_slot (λ d. true)) before (λ d. refl));
      joining = set_of_put wishes_join set.joining c.with-self.result places i place c.wishes_join.result low are.joining c.wishes_join.ensures c.with-self.ensures;
      asking = set_of_put wishes_role set.asking c.with-self-2.result places i place false low are.asking (gone wishes_role (λ d. refl)) c.with-self-2.ensures;
      interrupting = set_of_put wishes_interrupt set.interrupting c.with-self-3.result places i place false low are.interrupting (gone wishes_interrupt (λ d. refl)) c.with-self-3.ensures;
      hearing = set_of_same (λ d. d.hearing) set.hearing places i place low are.hearing (ap (in_slot (λ d. d.hearing)) is ∙ same (in_slot (λ d. d.hearing)) before (λ d. refl));
      unaddressed = set_of_put (λ d. is_none d.address) set.unaddressed c.with-self-4.result places i place c.is_some.result low are.unaddressed (c.is_some.ensures ∙ (ap is_some is ∙ (lacks before ∙ sym (ap (in_slot (λ d. is_none d.address)) is)))) c.with-self-4.ensures;
      keys = entries_of_put key_in IsDynamicIn set.keys places i place c.key_in.result low are.keys c.key_in.ensures.key c.key_in.ensures.dynamic c.requires;
      answering = answers_of_put set.answering c.set.new.self places i place c.answer_in.result low are.answering c.answer_in.ensures c.requires c.set.ensures.set c.set.ensures.found;
      columns = columns_of_same set.columns places i place low are.columns (ap identity_in is ∙ same identity_in before (λ d. refl));
    }
