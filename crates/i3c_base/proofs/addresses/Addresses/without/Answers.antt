use Rattle.std.proofs.Common.{arith}
use Rattle.i3c_base.proofs.SetLaws.{less_below, less_other, less_same}
use Rattle.i3c_base.proofs.addresses.Addresses.without.Goals as goal

pub returns-clause-not_in_it : goal.returns-clause-not_in_it
returns-clause-not_in_it c = rw c.get.ensures.same (less_same c.args.self.0 c.args.address (omega arith))

pub returns-clause-others : goal.returns-clause-others
returns-clause-others c = rw c.get.ensures.same (λ a other. less_other c.args.self.0 c.args.address a (omega arith) (omega arith) other)

pub returns-clause-less : goal.returns-clause-less
returns-clause-less c = rw c.get.ensures.same (λ has. less_below c.args.self.0 c.args.address (omega arith) has)
