use Rattle.std.proofs.Common.{◌≡◌, drop}
use Rattle.i3c_tracks.specs.Refusing.{ask_before}
use Rattle.i3c_tracks.proofs.body.asks_before.Given as goal

abbrev pub invariant-loop-index : goal.invariant-loop-index
invariant-loop-index l = ask_before (drop l.index l.facts) ≡ ask_before l.facts
