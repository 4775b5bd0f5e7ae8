-- The front leaves those that wait.
use Rattle.i3c_base.specs.Serve.{tail}
use Rattle.i3c_device.proofs.slot_update.InterruptAcceptedSlotUpdate.noted.Goals as goal

pub returns : goal.returns
returns c places long are is = c.queued.ensures places c.args.place.now (λ d. tail d.waiting) long are is c.wishes_interrupt.ensures
