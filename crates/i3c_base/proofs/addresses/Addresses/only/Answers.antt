use Rattle.std.proofs.Common.{arith}
use Rattle.i3c_base.proofs.SetLaws.{only_other, only_same}
use Rattle.i3c_base.proofs.addresses.Addresses.only.Goals as goal

pub returns-clause-same : goal.returns-clause-same
returns-clause-same c = rw c.get.ensures.same (only_same c.args.self.0 c.args.address (omega arith))

pub returns-clause-others : goal.returns-clause-others
returns-clause-others c = rw c.get.ensures.same (λ a other. only_other c.args.self.0 c.args.address a (omega arith) other)
