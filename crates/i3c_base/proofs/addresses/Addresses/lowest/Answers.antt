use Rattle.std.proofs.Common.{◌≡◌, arith}
use Rattle.std.specs.Int.{w128, trailing_zeros}
use Rattle.i3c_base.proofs.SetLaws.{in_nothing, lowest}
use Rattle.i3c_base.proofs.addresses.Addresses.lowest.Goals as goal

pub returns-then-self-eq0 : goal.returns-then-self-eq0
returns-then-self-eq0 c = rw c.if-self-eq0.true in_nothing

pub returns : goal.returns
returns c =
    let found = lowest c.args.self.0 c.if-self-eq0.false (omega arith) in
    let is : c.unwrap.result ≡ trailing_zeros w128 c.args.self.0 = rw c.unwrap.ensures at c.new.ensures.same in
    rw is found.1
