use Rattle.std.proofs.Common.{◌≡◌, ◌<◌, ℕ, length}
use Rattle.i3c_explore.specs.Notes.{IsUnmarked}
use Rattle.i3c_explore.specs.Orders.{track}
use Rattle.i3c_explore.proofs.notes.unmarked.Given as goal

-- the tracks so far have marks, none of which is set
abbrev pub invariant-loop-track : goal.invariant-loop-track
invariant-loop-track g l = record {
  sized : length l.marks.items ≡ l.track;
  shaped : (t : ℕ) → t < l.track → length (track l.marks.items t) ≡ length (track l.fn.tracks t);
  none : IsUnmarked l.marks.items;
}
