-- All numbers are 0.
use Rattle.std.proofs.Common.{arith, refl}
use Rattle.i3c_base.specs.State.{no_raises}
use Rattle.i3c_bus.proofs.Differing.{none_raised}
use Rattle.i3c_bus.proofs.raises.Raises.new.Goals as goal

pub invariant_of-result : goal.invariant_of-result
unfolding no_raises
invariant_of-result c = record { long = refl; within = omega arith; rest = λ k le. none_raised k }

pub returns : goal.returns
unfolding no_raises
returns c = refl
