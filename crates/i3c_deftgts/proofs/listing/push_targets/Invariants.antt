use Rattle.std.proofs.Common.{◌≡◌, ◌++◌, drop}
use Rattle.i3c_deftgts.specs.Entries.{legacy_at, upwards}
use Rattle.i3c_deftgts.proofs.listing.push_targets.Given as goal

abbrev pub invariant-loop-place : goal.invariant-loop-place
invariant-loop-place l = l.entries.items ++ upwards legacy_at l.place (drop l.place l.lvrs) ≡ l.initial.entries.items ++ upwards legacy_at 0 l.lvrs
