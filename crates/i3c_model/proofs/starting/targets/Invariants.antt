use Rattle.std.proofs.Common.{option_map}
use Rattle.i3c_base.specs.State.{legacy_target_of}
use Rattle.i3c_model.proofs.Starts.{IsFilled}
use Rattle.i3c_model.proofs.starting.targets.Given as goal

-- the targets declared so far
abbrev pub invariant-loop-value : goal.invariant-loop-value
invariant-loop-value l = IsFilled (option_map legacy_target_of) l.legacies.legacy l.value l.targets
