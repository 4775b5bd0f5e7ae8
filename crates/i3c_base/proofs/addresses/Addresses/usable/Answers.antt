use Rattle.i3c_base.proofs.SetLaws.{usable_in}
use Rattle.i3c_base.proofs.addresses.Addresses.usable.Goals as goal

pub returns : goal.returns
returns c = usable_in
