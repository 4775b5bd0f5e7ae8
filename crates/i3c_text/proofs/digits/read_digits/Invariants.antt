use Rattle.std.proofs.Common.{◌≡◌, ℕ, ◌<◌, ◌^◌, get_or, take}
use Rattle.std.specs.Str.Parse.{digits_value}
use Rattle.i3c_text.specs.Digits.{IsHexDigit}
use Rattle.i3c_text.specs.Hex.{hex_text}
use Rattle.i3c_text.proofs.digits.read_digits.Given as goal

-- the digits so far, and the number that they write
abbrev pub invariant-loop-byte : goal.invariant-loop-byte
invariant-loop-byte l = record {
  form : (k : ℕ) → k < l.byte-index → IsHexDigit (get_or l.digits k 0);
  value : l.number ≡ digits_value 16 (take l.byte-index l.digits);
  range : l.number < 16 ^ l.byte-index;
  text : hex_text l.byte-index l.number ≡ take l.byte-index l.digits;
}
