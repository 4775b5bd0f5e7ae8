use Rattle.std.proofs.Common.{length, map}
use Rattle.i3c_task.proofs.LegacyLaws.{Left}
use Rattle.i3c_task.proofs.options.legacies_of.Given as goal

abbrev pub invariant-loop-rest : goal.invariant-loop-rest
invariant-loop-rest l = Left (map (λ text. text.now) l.fn.texts) (map (λ text. text.now) l.rest) l.legacies.0

abbrev pub decreases-loop-rest : goal.decreases-loop-rest
decreases-loop-rest l = length l.rest
