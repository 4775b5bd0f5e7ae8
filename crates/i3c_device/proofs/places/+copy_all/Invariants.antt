use Rattle.std.proofs.Common.{length}
use Rattle.i3c_device.proofs.places.+copy_all.Given as goal

abbrev pub decreases-copy_all : goal.decreases-copy_all
decreases-copy_all l = length l.places.now
