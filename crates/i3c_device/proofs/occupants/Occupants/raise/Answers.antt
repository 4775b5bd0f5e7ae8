-- A raise changes only the interrupts that wait; a refused one changes nothing.
use Rattle.std.proofs.Common.{◌≡◌, ℕ, ◌<◌, ◌++◌, ◌∷◌, ◌∙◌, [], ap, arith, get_or, is_some, length, length-set, Err, None, Ok, OnErr, OnOk, option_map, refl, Result, set, List, Option, Some, suc}
use Rattle.std.proofs.lemmas.List.{get_or_default, get_or-set_same, set-get_or}
use Rattle.i3c_base.specs.declared.device.Waiting.{Waiting}
use Rattle.i3c_base.specs.declared.refusals.RaiseRefusal.{RaiseRefusal}
use Rattle.i3c_base.specs.State.{Device, in_slot}
use Rattle.i3c_base.specs.Local.{with_raise}
use Rattle.i3c_device.specs.SlotIndex.{requeued}
use Rattle.i3c_device.specs.Wishing.{wishes_interrupt}
use Rattle.i3c_device.proofs.SeenWalks.{on_err, on_ok}
use Rattle.i3c_device.proofs.occupants.Occupants.raise.Goals as goal

-- the device in the slot
stands : (places now : List (Option Device)) (i slot : ℕ) (d : Option Device) → places ≡ now → i ≡ slot → i < length places → get_or places i d ≡ get_or now slot None
stands places now i slot d is same low = get_or_default places i d None low ∙ (ap (λ s. get_or places s None) same ∙ ap (λ xs. get_or xs slot None) is)

-- it has another queue, or the one that it had
waits : (answer : Result ℕ RaiseRefusal) (number : ℕ) (byte : Option ℕ) (place before : Option Device) → OnOk answer (place ≡ option_map (with_raise number byte) before) → OnErr answer (place ≡ before)
    → (queue : Device → List Waiting) × (place ≡ option_map (requeued queue) before)
waits (Ok answer) number byte place before raised unchanged = (λ d. d.waiting ++ record { number = number; byte = byte } ∷ [], raised)
waits (Err answer) number byte place before raised unchanged = (λ d. d.waiting, unchanged ∙ as_it_was before)
  where
    as_it_was : (o : Option Device) → o ≡ option_map (requeued (λ d. d.waiting)) o
    as_it_was None = refl
    as_it_was (Some d) = refl

pub raise-answer-requires : goal.raise-answer-requires
raise-answer-requires c =
    let low : c.index-index.result < length c.self.inside.places = omega (arith, c.self.invariant.0, c.index-index.ensures.in_range) in
    ap is_some (stands c.self.inside.places c.args.self.now c.index-index.result c.args.slot c.index-self-index.result c.self.view_is c.index-index.ensures.same low ∙ c.requires.1)

pub invariant_of-self : goal.invariant_of-self
invariant_of-self c =
    let places = c.self.inside.places in
    let i = c.index-index.result in
    let place = c.raise-answer.new.place in
    let low : i < length places = omega (arith, c.self.invariant.0, c.index-index.ensures.in_range) in
    let queue = waits c.raise-answer.result (suc c.args.raised) c.args.byte place (get_or places i c.index-self-index.result) c.raise-answer.ensures.raised c.raise-answer.ensures.unchanged in (
      length-set places i place ∙ c.self.invariant.0,
      c.queued.ensures places place queue.0 c.self.invariant.0 c.self.invariant.1 (queue.1 ∙ ap (option_map (requeued queue.0)) (get_or_default places i c.index-self-index.result None low))
          (c.wishes_interrupt-interrupts.ensures ∙ ap (in_slot wishes_interrupt) (get_or-set_same places i place c.index-self-index-2.result low)),
    )

pub returns-clause-fault : goal.returns-clause-fault
returns-clause-fault c d is =
    let low : c.index-index.result < length c.self.inside.places = omega (arith, c.self.invariant.0, c.index-index.ensures.in_range) in
    c.raise-answer.ensures.fault d (stands c.self.inside.places c.args.self.now c.index-index.result c.args.slot c.index-self-index.result c.self.view_is c.index-index.ensures.same low ∙ is)

pub returns-clause-raised : goal.returns-clause-raised
returns-clause-raised c =
    let places = c.self.inside.places in
    let i = c.index-index.result in
    let place = c.raise-answer.new.place in
    let raised : Option Device → Option Device = option_map (with_raise (suc c.args.raised) c.args.byte) in
    let low : i < length places = omega (arith, c.self.invariant.0, c.index-index.ensures.in_range) in
    on_ok c.raise-answer.result (place ≡ raised (get_or places i c.index-self-index.result)) (set places i place ≡ set c.args.self.now c.args.slot (raised (get_or c.args.self.now c.args.slot None)))
    (λ e. ap (set places i) (e ∙ ap raised (stands places c.args.self.now i c.args.slot c.index-self-index.result c.self.view_is c.index-index.ensures.same low))
    ∙ (λ t. set (c.self.view_is t) (c.index-index.ensures.same t) (raised (get_or c.args.self.now c.args.slot None))))
    c.raise-answer.ensures.raised

pub returns-clause-unchanged : goal.returns-clause-unchanged
returns-clause-unchanged c =
    let places = c.self.inside.places in
    let i = c.index-index.result in
    let place = c.raise-answer.new.place in
    on_err c.raise-answer.result (place ≡ get_or places i c.index-self-index.result) (set places i place ≡ c.args.self.now)
    (λ e. ap (set places i) e ∙ (set-get_or places i c.index-self-index.result ∙ c.self.view_is)) c.raise-answer.ensures.unchanged
