-- All that is marked of the slot is marked anew, whatever happened there.
use Rattle.i3c_device.proofs.slot_update.SlotUpdate.noted.Goals as goal

pub returns : goal.returns
returns g c places long are is = c.noted.ensures places long are
