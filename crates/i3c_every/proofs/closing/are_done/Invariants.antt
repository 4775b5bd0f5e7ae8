use Rattle.std.proofs.Common.{ℕ, ◌<◌}
use Rattle.i3c_explore.specs.Layers.{IsNextAt}
use Rattle.i3c_explore.specs.Orders.{track}
use Rattle.i3c_every.proofs.closing.are_done.Given as goal

-- no line is left in the tracks before
abbrev pub invariant-loop-t : goal.invariant-loop-t
invariant-loop-t g l = (t : ℕ) (line : g.row.L.Denot) → t < l.t → IsNextAt (track l.fn.tracks) l.fn.places t line → ⊥
