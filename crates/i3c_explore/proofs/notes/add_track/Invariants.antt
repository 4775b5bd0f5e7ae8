use Rattle.std.proofs.Common.{◌≡◌, ◌<◌, ℕ, Some, true}
use Rattle.std.specs.List.{slice_get}
use Rattle.i3c_explore.specs.Notes.{Adds}
use Rattle.i3c_explore.proofs.notes.add_track.Given as goal

-- the marks of the lines so far are added
abbrev pub invariant-loop-line : goal.invariant-loop-line
invariant-loop-line l = Adds (λ (t k : ℕ). (t ≡ l.fn.track) × (k < l.line) × (slice_get l.fn.more.items k ≡ Some true)) l.initial.noted.items l.noted.items
