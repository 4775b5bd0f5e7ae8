use Rattle.std.proofs.Common.{◌≡◌, ◌++◌, true, drop}
use Rattle.i3c_runner.specs.Watched.{numbered}
use Rattle.i3c_runner.proofs.watched.push_numbered.Given as goal

-- what is left to append of the text
abbrev pub invariant-loop-byte : goal.invariant-loop-byte
invariant-loop-byte l = l.text ++ numbered l.start l.begins (drop l.byte-index l.plain) ≡ l.initial.text ++ numbered l.start true l.plain
