use Rattle.std.proofs.Common.{◌≡◌, ◌++◌}
use Rattle.i3c_runner.specs.Reasons.{slots_told}
use Rattle.i3c_runner.proofs.reasons.explain_cuts.Given as goal

-- the slots before were told
abbrev pub invariant-loop-index : goal.invariant-loop-index
invariant-loop-index l = l.text ≡ l.initial.text ++ slots_told l.number l.bus.state l.names l.cuts l.index
