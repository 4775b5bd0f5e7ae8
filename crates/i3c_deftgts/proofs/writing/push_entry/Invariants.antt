use Rattle.std.proofs.Common.{◌≡◌, ◌++◌, take}
use Rattle.i3c_deftgts.proofs.writing.push_entry.Given as goal

abbrev pub invariant-loop-word : goal.invariant-loop-word
invariant-loop-word l = l.words.items ≡ l.initial.words.items ++ take l.word-index l.word-items
