use Rattle.std.proofs.Common.{◌≡◌, ◌++◌, length}
use Rattle.i3c_monitor.specs.Due.{words_in}
use Rattle.i3c_monitor.proofs.words.leading_words.Given as goal

abbrev pub invariant-loop-rest : goal.invariant-loop-rest
invariant-loop-rest l = l.words.items ++ words_in l.rest ≡ words_in l.fn.symbols

abbrev pub decreases-loop-rest : goal.decreases-loop-rest
decreases-loop-rest l = length l.rest
