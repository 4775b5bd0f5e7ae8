use Rattle.std.proofs.Common.{◌≡◌, Bool, map, take}
use Rattle.std.specs.Global.{Vec}
use Rattle.i3c_tracks.specs.Groups.{key_of}
use Rattle.i3c_tracks.proofs.groups.keys_of.Given as goal

abbrev pub invariant-loop-index : goal.invariant-loop-index
invariant-loop-index l = map (λ (key : Vec Bool). key.items) l.keys.items ≡ map (key_of l.questions) (take l.index l.ends)
