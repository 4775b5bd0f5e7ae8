use Rattle.std.proofs.Common.{◌≡◌, take}
use Rattle.i3c_facts.specs.Hearing.{heard_with, nothing_heard}
use Rattle.i3c_script.specs.Hearing.{all_heard}
use Rattle.i3c_scene.proofs.replying.heard_in.Given as goal

-- the pieces before were heard
abbrev pub invariant-loop-index : goal.invariant-loop-index
invariant-loop-index l = l.heard ≡ all_heard heard_with nothing_heard (take l.index l.fn.pieces)
