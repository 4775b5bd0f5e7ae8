use Rattle.std.specs.Prelude.{◌≤◌, length}
use Rattle.i3c_explore.specs.Notes.{IsNotedBehind, IsQuietBehind, Marks}
use Rattle.i3c_explore.specs.Owners.{own}
use Rattle.i3c_explore.specs.Nexts.{IsNextOf}
use Rattle.i3c_explore.specs.Parts.{opening}
use Rattle.i3c_explore.specs.Runs.{IsWithin, runs_from}
use Rattle.i3c_explore.proofs.expand.expand_turns.Given as goal

-- the layer follows the nodes so far
abbrev pub invariant-loop-index : goal.invariant-loop-index
invariant-loop-index g l = record {
  follows : IsNextOf g.M.Machine.steps l.fn.tracks (opening l.fn.part l.fn.tracks) (own l.fn.owners (length l.fn.tracks) l.fn.job (opening l.fn.part l.fn.tracks)) l.fn.layer 0 l.index l.next.nodes.items;
  within : IsWithin l.fn.limits l.next (runs_from g.M.Machine.last (own l.fn.owners (length l.fn.tracks) l.fn.job (opening l.fn.part l.fn.tracks)) (length l.fn.tracks) l.fn.layer l.index);
  noted : Marks (IsNotedBehind g.M.Machine.notes (own l.fn.owners (length l.fn.tracks) l.fn.job (opening l.fn.part l.fn.tracks)) l.fn.layer l.index) (IsQuietBehind g.M.Machine.quiet (own l.fn.owners (length l.fn.tracks) l.fn.job (opening l.fn.part l.fn.tracks)) l.fn.layer l.index) l.fn.noted.items l.next.noted.items;
  few : length l.next.nodes.items ≤ runs_from g.M.Machine.last (own l.fn.owners (length l.fn.tracks) l.fn.job (opening l.fn.part l.fn.tracks)) (length l.fn.tracks) l.fn.layer l.index;
}
