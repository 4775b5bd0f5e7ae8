use Rattle.std.proofs.Common.{◌≡◌, take}
use Rattle.i3c_device.proofs.queues.copied.Given as goal

-- the interrupts so far
abbrev pub invariant-loop-interrupt : goal.invariant-loop-interrupt
invariant-loop-interrupt l = l.queue.items ≡ take l.interrupt-index l.waiting.items
