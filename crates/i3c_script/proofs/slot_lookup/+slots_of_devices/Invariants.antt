use Rattle.std.proofs.Common.{length}
use Rattle.i3c_script.proofs.slot_lookup.+slots_of_devices.Given as goal

abbrev pub decreases-slots_of_devices : goal.decreases-slots_of_devices
decreases-slots_of_devices g l = length l.named.now
