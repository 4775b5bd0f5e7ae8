use Rattle.std.proofs.Common.{◌≡◌, drop}
use Rattle.i3c_scene.specs.Scenes.{place_in}
use Rattle.i3c_scene.proofs.named.place_in.Given as goal

-- no name so far is the one that is sought
abbrev pub invariant-loop-named : goal.invariant-loop-named
invariant-loop-named l = place_in (drop l.named-index l.fn.names) l.fn.name ≡ place_in l.fn.names l.fn.name
