use Rattle.std.proofs.Common.{◌≡◌, Bool, false, List, [], get_or, map, take}
use Rattle.std.specs.Global.{Vec}
use Rattle.std.specs.List.{list_any}
use Rattle.i3c_tracks.specs.Groups.{are_alike}
use Rattle.i3c_tracks.proofs.groups.begins_at.Given as goal

abbrev pub invariant-loop-index : goal.invariant-loop-index
invariant-loop-index l =
    list_any (λ (key : List Bool). are_alike key (get_or (map (λ (key : Vec Bool). key.items) l.keys) l.place [])) (take l.index (map (λ (key : Vec Bool). key.items) l.keys)) ≡ false
