use Rattle.std.proofs.Common.{◌≡◌, ◌≤◌, Bool, map}
use Rattle.std.specs.Global.{Vec}
use Rattle.i3c_tracks.specs.Groups.{groups_in}
use Rattle.i3c_tracks.proofs.groups.count_groups.Given as goal

abbrev pub invariant-loop-index : goal.invariant-loop-index
invariant-loop-index l = (l.count ≡ groups_in (map (λ (key : Vec Bool). key.items) l.keys) l.index) × (l.count ≤ l.index)
