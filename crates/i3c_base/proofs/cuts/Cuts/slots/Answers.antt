-- The mask itself.
use Rattle.std.proofs.Common.{arith}
use Rattle.i3c_base.proofs.CutLaws.{names_cut}
use Rattle.i3c_base.proofs.cuts.Cuts.slots.Goals as goal

pub returns : goal.returns
returns c s lt = names_cut c.self.inside.cut c.self.inside.bits c.args.self.now s c.self.view_is (omega (arith, lt))
