-- The mask's bit says whether the slot is cut.
use Rattle.std.proofs.Common.{arith}
use Rattle.i3c_base.proofs.CutLaws.{read_in, read_out}
use Rattle.i3c_base.proofs.cuts.Cuts.at.Goals as goal

pub returns-then-self-index-eq1 : goal.returns-then-self-index-eq1
returns-then-self-index-eq1 c =
    read_in c.self.inside.cut c.self.inside.bits c.args.self.now c.index-index.result c.args.slot c.self.view_is c.index-index.ensures.same (omega arith) c.if-self-index-eq1.true

pub returns-else-self-index-eq1 : goal.returns-else-self-index-eq1
returns-else-self-index-eq1 c =
    read_out c.self.inside.cut c.self.inside.bits c.args.self.now c.index-index.result c.args.slot c.self.view_is c.index-index.ensures.same (omega arith) c.if-self-index-eq1.false
