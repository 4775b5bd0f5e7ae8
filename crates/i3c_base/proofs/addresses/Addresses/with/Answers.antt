use Rattle.std.proofs.Common.{arith}
use Rattle.i3c_base.proofs.SetLaws.{with_other, with_same}
use Rattle.i3c_base.proofs.addresses.Addresses.with.Goals as goal

pub returns-clause-in_it : goal.returns-clause-in_it
returns-clause-in_it c = rw c.get.ensures.same (with_same c.args.self.0 c.args.address (omega arith))

pub returns-clause-others : goal.returns-clause-others
returns-clause-others c = rw c.get.ensures.same (λ a other. with_other c.args.self.0 c.args.address a (omega arith) other)
