use Rattle.i3c_device.proofs.slot_update.WonSlotUpdate.noted.Goals as goal

pub returns : goal.returns
returns c places long are is = c.won.ensures places c.args.self.now.address long are is
