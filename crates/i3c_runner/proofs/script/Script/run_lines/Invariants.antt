use Rattle.std.proofs.Common.{◌≡◌, ℕ, List, [], ◌++◌, length}
use Rattle.i3c_lines.specs.Gathering.{gathered}
use Rattle.i3c_streams.specs.Outcomes.{output}
use Rattle.i3c_runner.specs.ScriptSteps.{RunsTo, progress}
use Rattle.i3c_runner.proofs.script.Script.run_lines.Given as goal

-- the lines before were run, and none is held
abbrev pub invariant-loop-end : goal.invariant-loop-end
invariant-loop-end g l = (gathered l.self.line ≡ gathered l.initial.self.line)
    × ((before : List ℕ) × (l.fn.bytes ≡ before ++ l.rest) × RunsTo before [] (output (g.W.Write.contents l.initial.out) l.initial.self.gathered) (output (g.W.Write.contents l.out) l.self.gathered) (progress l.initial.self) (progress l.self))

abbrev pub decreases-loop-end : goal.decreases-loop-end
decreases-loop-end g l = length l.rest
