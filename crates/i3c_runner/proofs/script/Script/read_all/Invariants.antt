use Rattle.std.proofs.Common.{◌≡◌, ◌+◌, ◌≤◌, []}
use Rattle.i3c_lines.specs.Gathering.{gathered}
use Rattle.i3c_streams.specs.Reading.{Leaves}
use Rattle.i3c_runner.specs.ScriptSteps.{ReadSoFar, progress}
use Rattle.i3c_streams.specs.declared.reading.TheConstants.{MOST_BYTES}
use Rattle.i3c_runner.proofs.script.Script.read_all.Given as goal

-- each turn reads a byte at least, and counts what it read; the lines that it ended were run
abbrev pub invariant-loop : goal.invariant-loop
invariant-loop g l = (l.counter + l.left ≤ MOST_BYTES) × Leaves MOST_BYTES (g.R.Read.remaining l.fn.reader) (g.R.Read.remaining l.reader) l.left
    × (gathered l.initial.self.line ≡ [] → ReadSoFar (g.R.Read.remaining l.fn.reader) (g.R.Read.remaining l.reader) (g.W.Write.contents l.initial.out) (g.W.Write.contents l.out) (gathered l.self.line) (progress l.initial.self) (progress l.self) l.left)
