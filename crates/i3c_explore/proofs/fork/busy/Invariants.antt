use Rattle.std.proofs.Common.{◌≡◌, ◌≤◌, ◌+◌, drop}
use Rattle.i3c_explore.specs.Parts.{busy}
use Rattle.i3c_explore.proofs.fork.busy.Given as goal

-- the tracks so far are counted
abbrev pub invariant-loop-track : goal.invariant-loop-track
invariant-loop-track g l = record {
  few : l.count ≤ l.track-index;
  counted : l.count + busy (drop l.track-index l.tracks) ≡ busy l.tracks;
}
