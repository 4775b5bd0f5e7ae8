use Rattle.std.proofs.Common.{◌≡◌, ◌<◌, drop}
use Rattle.i3c_wave.specs.DumpWords.{number_from}
use Rattle.i3c_wave.proofs.NumberLaws.{ten_to}
use Rattle.i3c_wave.proofs.dump_word.short_number.Given as goal

-- the number so far has as many digits at most as were read, and leads with the next digits to the whole number
abbrev pub invariant-loop-digit : goal.invariant-loop-digit
invariant-loop-digit l = record {
  small : l.number < ten_to l.digit-index;
  so_far : number_from 0 l.fn.digits ≡ number_from l.number (drop l.digit-index l.fn.digits);
}
