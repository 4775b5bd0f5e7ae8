use Rattle.std.proofs.Common.{◌≡◌, ◌<◌, ℕ, List, Option, length}
use Rattle.i3c_streams.specs.Lines.{IsReadFrom, given}
use Rattle.i3c_streams.proofs.script_lines.ScriptLines.advance.Given as goal

-- no line was taken in hand yet, and what was read is the script's
abbrev pub invariant-loop : goal.invariant-loop
invariant-loop g l = record {
  room : 0 < length l.chunk;
  given : given l.self ≡ given l.initial.self;
  read : (known : Option (List ℕ)) → IsReadFrom known (g.R.Read.remaining l.initial.reader) l.initial.self → IsReadFrom known (g.R.Read.remaining l.reader) l.self;
}
