use Rattle.std.proofs.Common.{arith}
use Rattle.i3c_base.proofs.SetLaws.{less_all}
use Rattle.i3c_base.proofs.addresses.Addresses.without_all.Goals as goal

pub returns : goal.returns
returns c = λ a. less_all c.args.self.0 c.args.others.0 a (omega arith) (omega arith)
