use Rattle.std.proofs.Common.{◌≡◌, ℕ, ◌<◌, ◌≤◌, length}
use Rattle.i3c_shared.specs.Rings.{HasLooked, ring_at}
use Rattle.i3c_shared.proofs.intake.look.Given as goal

abbrev pub invariant-loop-ring : goal.invariant-loop-ring
invariant-loop-ring l = record {
  same : length l.ring-items ≡ length l.initial.ring-items;
  looked : (k : ℕ) → k < l.ring-index → HasLooked (ring_at l.initial.ring-items k) (ring_at l.ring-items k);
  rest : (k : ℕ) → l.ring-index ≤ k → ring_at l.ring-items k ≡ ring_at l.initial.ring-items k;
}
