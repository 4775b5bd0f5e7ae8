use Rattle.std.proofs.Common.{◌≡◌, Some, length, map}
use Rattle.i3c_monitor.specs.AddressStatuses.{all_listed}
use Rattle.i3c_monitor.proofs.address_statuses.AddressStatuses.list_all.Given as goal

abbrev pub invariant-loop-rest : goal.invariant-loop-rest
invariant-loop-rest l = all_listed (map Some l.rest) l.self ≡ all_listed (map Some l.fn.entries) l.initial.self

abbrev pub decreases-loop-rest : goal.decreases-loop-rest
decreases-loop-rest l = length l.rest
