use Rattle.std.proofs.Common.{◌≡◌, ℕ, ◌+◌, ◌≤◌, ◌++◌, length, List}
use Rattle.std.specs.Prelude.{Option, true}
use Rattle.rtrb.specs.Ring.{SameConsumer, known_items, received}
use Rattle.i3c_shared.specs.Rings.{raises_at}
use Rattle.i3c_shared.specs.Taking.{Adds}
use Rattle.i3c_shared.proofs.intake.drain_known.Given as goal

abbrev pub invariant-loop : goal.invariant-loop
invariant-loop l =
    (done : List (Option ℕ))
    × (length done ≡ l.counter)
    × (known_items l.initial.ring ≡ done ++ known_items l.ring)
    × (received l.ring ≡ received l.initial.ring ++ done)
    × SameConsumer l.initial.ring l.ring
    × (l.recorder.room ≡ true)
    × (l.initial.recorder.spare ≤ l.recorder.spare + l.counter)
    × Adds l.initial.recorder (raises_at l.slot done) l.recorder
