use Rattle.i3c_base.proofs.SetLaws.{in_nothing}
use Rattle.i3c_base.proofs.addresses.Addresses.new.Goals as goal

pub returns : goal.returns
returns c = in_nothing
