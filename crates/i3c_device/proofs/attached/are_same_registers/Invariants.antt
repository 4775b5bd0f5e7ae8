use Rattle.std.proofs.Common.{◌≡◌, ◌<◌, ℕ, Decides, get_or}
use Rattle.i3c_device.proofs.attached.are_same_registers.Given as goal

-- whether both begin alike
abbrev pub invariant-loop-index : goal.invariant-loop-index
invariant-loop-index l = Decides l.same ((k : ℕ) → k < l.index → get_or l.fn.registers k 0 ≡ get_or l.fn.others k 0)
