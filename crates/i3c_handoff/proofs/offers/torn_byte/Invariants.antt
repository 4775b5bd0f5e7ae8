use Rattle.std.proofs.Common.{ℕ, ◌+◌, ◌<◌}
use Rattle.i3c_base.specs.Cutting.{lost_by}
use Rattle.i3c_base.specs.State.{with_active}
use Rattle.i3c_base.specs.Frames.{IsLowestWilling}
use Rattle.i3c_handoff.proofs.offers.torn_byte.Given as goal

-- somebody was left to drive each bit so far
abbrev pub invariant-loop-bit : goal.invariant-loop-bit
invariant-loop-bit l = (k : ℕ) → k < l.bit → (s : ℕ) × IsLowestWilling (with_active l.devices l.active) l.to (lost_by l.cuts (l.sent + 1 + k)) s
