use Rattle.std.proofs.Common.{◌≡◌, ℕ, ◌+◌, ◌*◌, ◌<◌, ◌≤◌, length}
use Rattle.std.specs.Prelude.{true}
use Rattle.i3c_shared.specs.declared.port.TheConstants.{POSTS}
use Rattle.i3c_shared.specs.Rings.{HasDrained, raises_below, ring_at}
use Rattle.i3c_shared.specs.Taking.{Adds}
use Rattle.i3c_shared.proofs.intake.drain.Given as goal

abbrev pub invariant-loop-ring : goal.invariant-loop-ring
invariant-loop-ring l = record {
  at : l.index ≡ l.ring-index;
  same : length l.ring-items ≡ length l.initial.ring-items;
  drained : (k : ℕ) → k < l.ring-index → HasDrained (ring_at l.initial.ring-items k) (ring_at l.ring-items k);
  rest : (k : ℕ) → l.ring-index ≤ k → ring_at l.ring-items k ≡ ring_at l.initial.ring-items k;
  room : l.recorder.room ≡ true;
  adds : Adds l.initial.recorder (raises_below l.ring-index l.initial.ring-items) l.recorder;
  spare : l.initial.recorder.spare ≤ l.recorder.spare + POSTS * l.ring-index;
}
