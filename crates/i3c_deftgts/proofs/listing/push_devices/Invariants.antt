use Rattle.std.proofs.Common.{◌≡◌, ◌++◌}
use Rattle.i3c_deftgts.specs.Entries.{device_at, given_in, upwards}
use Rattle.i3c_deftgts.proofs.listing.push_devices.Given as goal

abbrev pub invariant-loop-address : goal.invariant-loop-address
invariant-loop-address l = l.entries.items ++ upwards device_at 0 (given_in l.left.0 l.table.given) ≡ l.initial.entries.items ++ upwards device_at 0 (given_in l.fn.addresses.0 l.table.given)

abbrev pub decreases-loop-address : goal.decreases-loop-address
decreases-loop-address l = l.left.0
