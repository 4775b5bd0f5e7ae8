use Rattle.i3c_device.proofs.KeepLaws.{unpacks_nobody}
use Rattle.i3c_device.proofs.occupants_snapshot.OccupantsSnapshot.new.Goals as goal

pub returns : goal.returns
returns c = unpacks_nobody c.new.result.items c.new.ensures.items
