use Rattle.i3c_model.proofs.Starts.{IsFilled, same_place}
use Rattle.i3c_model.proofs.starting.identities.Given as goal

-- the identities declared so far
abbrev pub invariant-loop-value : goal.invariant-loop-value
invariant-loop-value l = IsFilled same_place l.legacies.declared l.value l.identities
