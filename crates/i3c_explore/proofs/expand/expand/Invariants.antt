use Rattle.std.specs.Prelude.{◌<◌, ℕ, IsTrue, length}
use Rattle.i3c_explore.specs.Explorations.{Grows}
use Rattle.i3c_explore.specs.Notes.{IsNoted, IsQuiet, Marks}
use Rattle.i3c_explore.specs.Owners.{own}
use Rattle.i3c_explore.specs.Shares.{by_tracks}
use Rattle.i3c_explore.specs.Parts.{opening}
use Rattle.i3c_explore.specs.Layers.{IsExpanded}
use Rattle.i3c_explore.specs.Runs.{runs_of}
use Rattle.i3c_explore.proofs.expand.expand.Given as goal

-- the lines of the tracks so far ran
abbrev pub invariant-loop-track : goal.invariant-loop-track
invariant-loop-track g l = record {
  grown : Grows g.M.Machine.steps (opening l.fn.part l.fn.tracks) l.fn.tracks l.fn.node l.initial.next l.next (by_tracks (own l.fn.owners (length l.fn.tracks) l.fn.job (opening l.fn.part l.fn.tracks) l.fn.index) l.fn.node.places.items l.track)
      (runs_of g.M.Machine.last (own l.fn.owners (length l.fn.tracks) l.fn.job (opening l.fn.part l.fn.tracks) l.fn.index) l.fn.node l.track);
  expanded : IsExpanded g.M.Machine.steps (own l.fn.owners (length l.fn.tracks) l.fn.job (opening l.fn.part l.fn.tracks) l.fn.index) l.track l.fn.node l.next.nodes.items;
  noted : Marks (λ (t k : ℕ). (t < l.track) × IsNoted g.M.Machine.notes (own l.fn.owners (length l.fn.tracks) l.fn.job (opening l.fn.part l.fn.tracks) l.fn.index) l.fn.node t k) (λ (t k : ℕ). t < l.track → IsQuiet g.M.Machine.quiet (own l.fn.owners (length l.fn.tracks) l.fn.job (opening l.fn.part l.fn.tracks) l.fn.index) l.fn.node t k) l.initial.next.noted.items l.next.noted.items;
  near : IsTrue l.again → g.M.Machine.near l.runner l.fn.node.state;
}
