use Rattle.std.proofs.Common.{◌≡◌, ◌<◌, ℕ}
use Rattle.std.specs.Prelude.{IsTrue}
use Rattle.std.specs.List.{slice_index}
use Rattle.i3c_explore.specs.Explorations.{Grows}
use Rattle.i3c_explore.specs.Shares.{by_ways}
use Rattle.i3c_explore.specs.Parts.{opening}
use Rattle.i3c_explore.specs.Layers.{Has, advanced}
use Rattle.i3c_explore.specs.Notes.{Marks}
use Rattle.i3c_explore.proofs.expand.run_track.Given as goal

-- the line ran in the ways so far
abbrev pub invariant-loop-way : goal.invariant-loop-way
invariant-loop-way g l = record {
  grown : Grows g.M.Machine.steps (opening l.fn.part l.fn.tracks) l.fn.tracks l.fn.node l.initial.next l.next (by_ways l.way l.fn.track) l.way;
  ran : (way : ℕ) → way < l.way → (new : g.row.M.Denot) × g.M.Machine.steps l.fn.node.state l.line way new × Has l.next.nodes.items (advanced l.fn.track l.fn.node.places.items) new;
  noted : Marks (λ (t k : ℕ). (t ≡ l.fn.track) × (slice_index l.fn.node.places.items l.fn.track ≡ k) × ((w : ℕ) × (w < l.way) × g.M.Machine.notes l.fn.node.state l.line w)) (λ (t k : ℕ). t ≡ l.fn.track → slice_index l.fn.node.places.items l.fn.track ≡ k → (w : ℕ) → w < l.way → g.M.Machine.quiet l.fn.node.state l.line w) l.initial.next.noted.items l.next.noted.items;
  near : IsTrue l.near → g.M.Machine.near l.runner l.fn.node.state;
}
