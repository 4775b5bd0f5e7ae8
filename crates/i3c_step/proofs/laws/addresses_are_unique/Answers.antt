-- Devices of one address have one identity, so they are one device.
use Rattle.i3c_step.proofs.Answering.{unique_along}
use Rattle.i3c_step.proofs.laws.addresses_are_unique.Goals as goal

pub returns : goal.returns
returns c main legacy events replies new run distinct = unique_along main legacy events replies new run distinct
