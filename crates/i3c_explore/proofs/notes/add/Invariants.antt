use Rattle.std.proofs.Common.{◌<◌, ℕ}
use Rattle.i3c_explore.specs.Notes.{Adds, IsMarked}
use Rattle.i3c_explore.proofs.notes.add.Given as goal

-- the marks of the tracks so far are added
abbrev pub invariant-loop-track : goal.invariant-loop-track
invariant-loop-track l = Adds (λ (t k : ℕ). (t < l.track) × IsMarked l.fn.more.items t k) l.initial.noted.items l.noted.items
