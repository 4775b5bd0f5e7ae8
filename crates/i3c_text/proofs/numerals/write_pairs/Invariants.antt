use Rattle.std.proofs.Common.{◌≡◌, ◌*◌, length, take}
use Rattle.i3c_text.specs.Hex.{bytes_text}
use Rattle.i3c_text.proofs.numerals.write_pairs.Given as goal

-- the digits of the bytes so far are in their places
abbrev pub invariant-loop-index : goal.invariant-loop-index
invariant-loop-index l = (length l.places ≡ 2 * length l.bytes) × (take (2 * l.index) l.places ≡ bytes_text (take l.index l.bytes))
