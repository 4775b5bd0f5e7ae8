-- An empty mask, place by place.
use Rattle.std.proofs.Common.{refl, replicate}
use Rattle.i3c_base.specs.declared.range.TheConstants.{SLOTS}
use Rattle.i3c_base.specs.Cutting.{no_cuts}
use Rattle.i3c_base.proofs.CutLaws.{uncut_zero}
use Rattle.i3c_base.proofs.cuts.Cuts.new.Goals as goal

pub returns-clause-none : goal.returns-clause-none
unfolding no_cuts
returns-clause-none c = refl

pub returns-clause-uncut : goal.returns-clause-uncut
returns-clause-uncut c = uncut_zero (replicate SLOTS 0)
