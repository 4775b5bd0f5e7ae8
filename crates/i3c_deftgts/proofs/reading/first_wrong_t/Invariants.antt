use Rattle.std.proofs.Common.{◌≡◌, ◌+◌, drop}
use Rattle.std.specs.List.{position_from}
use Rattle.i3c_deftgts.specs.Reading.{has_wrong_t}
use Rattle.i3c_deftgts.proofs.reading.first_wrong_t.Given as goal

abbrev pub invariant-loop-index : goal.invariant-loop-index
invariant-loop-index l = position_from has_wrong_t 1 l.words ≡ position_from has_wrong_t (l.index + 1) (drop l.index l.words)
