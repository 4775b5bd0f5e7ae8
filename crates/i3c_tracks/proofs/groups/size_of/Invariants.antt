use Rattle.std.proofs.Common.{◌≡◌, ◌≤◌, Bool, List, map, take}
use Rattle.std.specs.Global.{Vec}
use Rattle.std.specs.Prelude.{count_by}
use Rattle.i3c_tracks.specs.Groups.{are_alike}
use Rattle.i3c_tracks.proofs.groups.size_of.Given as goal

abbrev pub invariant-loop-index : goal.invariant-loop-index
invariant-loop-index l = (l.size ≡ count_by (λ (one : List Bool). are_alike one l.key) (take l.index (map (λ (key : Vec Bool). key.items) l.keys))) × (l.size ≤ l.index)
