-- What waits changes, and nothing else.
use Rattle.std.proofs.Common.{◌<◌, ◌∙◌, ap, arith, length, length-set, None, option_map, List}
use Rattle.std.proofs.lemmas.List.{get_or_default, get_or-set_same}
use Rattle.i3c_base.specs.declared.device.Waiting.{Waiting}
use Rattle.i3c_base.specs.State.{Device, in_slot}
use Rattle.i3c_device.specs.SlotIndex.{requeued}
use Rattle.i3c_device.specs.Wishing.{wishes_interrupt}
use Rattle.i3c_device.proofs.occupants.Occupants.requeue.Goals as goal

pub invariant_of-self-2 : goal.invariant_of-self-2
invariant_of-self-2 c =
    let places = c.self.inside.places in
    let i = c.index-index.result in
    let place = c.requeue.new.place in
    let queue : Device → List Waiting = λ d. c.args.device.now.waiting in
    let low : i < length places = omega (arith, c.self.invariant.0, c.index-index.ensures.in_range) in (
      length-set places i place ∙ c.self.invariant.0,
      c.queued.ensures places place queue c.self.invariant.0 c.self.invariant.1 (c.requeue.ensures.requeued c.if-not-requeue.false ∙ ap (option_map (requeued queue)) (get_or_default places i c.index-self-index.result None low))
          (c.wishes_interrupt-interrupts.ensures ∙ ap (in_slot wishes_interrupt) (get_or-set_same places i place c.index-self-index-2.result low)),
    )
