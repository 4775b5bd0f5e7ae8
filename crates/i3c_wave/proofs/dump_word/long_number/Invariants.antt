use Rattle.std.proofs.Common.{◌≡◌, drop}
use Rattle.i3c_wave.specs.DumpWords.{number_from}
use Rattle.i3c_wave.proofs.dump_word.long_number.Given as goal

-- the number so far leads with the next digits to the whole number
abbrev pub invariant-loop-digit : goal.invariant-loop-digit
invariant-loop-digit l = number_from 0 l.fn.digits ≡ number_from l.number (drop l.digit-index l.fn.digits)
