-- What a reader makes of the marks on the lines.
use Rattle.std.specs.Prelude.{ℕ, zero, suc, ◌+◌, ◌*◌, ◌%◌, ◌==◌, Bool, true, false, List, [], ◌∷◌, ◌++◌, Option, Some, None, if◌then◌else◌}
use Rattle.i3c_base.specs.declared.addresses.Addresses.{Addresses}
use Rattle.i3c_frame.specs.declared.symbols.Symbol.{Symbol}
use Rattle.i3c_wave.specs.declared.awaited.Awaited.{Awaited}
use Rattle.i3c_wave.specs.declared.edges.Mark.{Mark}
use Rattle.i3c_wave.specs.declared.reader.Reader.{Reader}
use Rattle.i3c_wave.specs.declared.reader.Reading.{Reading}
use Rattle.i3c_wave.specs.Awaited.{bits_in, next_place, start_in, symbol_in}

-- what a mark is read as, and the reader behind it
pub record Turn : Type 0 where
  pub reading : Reading
  pub reader : Reader

-- a reader that has read nothing of the awaited symbol
abbrev pub awaiting : Addresses → Option Awaited → Reader
awaiting legacies place = record { legacies = legacies; place = place; number = 0; left = bits_in place }

-- a frame is open where a symbol of it is awaited
abbrev pub is_in_frame : Option Awaited → Bool
is_in_frame None = false
is_in_frame (Some awaited) = true

-- a symbol that isn't allowed there: the reader waits for the next frame
abbrev pub misread : Reader → Turn
misread reader = record { reading = Reading.Misread; reader = awaiting reader.legacies None }

-- a whole symbol that leads to a place, if it is allowed there
abbrev pub entered_at : Reader → Symbol → Option (Option Awaited) → Turn
entered_at reader symbol None = misread reader
entered_at reader symbol (Some place) = record { reading = Reading.Symbol symbol; reader = awaiting reader.legacies place }

-- the reader after a whole symbol, if it is allowed there
abbrev pub entered : Reader → Symbol → Turn
entered reader symbol = entered_at reader symbol (next_place reader.legacies.0 reader.place symbol)

-- a START or a STOP, which comes between symbols
abbrev pub framed : Reader → Symbol → Turn
framed reader symbol = if reader.left == bits_in reader.place then entered reader symbol else misread reader

-- a number with one more bit
abbrev pub shifted : ℕ → Bool → ℕ
shifted number bit = if bit then number % 9223372036854775808 * 2 + 1 else number % 9223372036854775808 * 2

-- the number of the bits so far, and the number of those still to come: the last makes the symbol whole
abbrev pub bit_turn : Reader → ℕ → ℕ → Turn
bit_turn reader number zero = misread reader
bit_turn reader number (suc zero) = entered reader (symbol_in reader.place number)
bit_turn reader number (suc (suc left)) = record { reading = Reading.Partial; reader = record { legacies = reader.legacies; place = reader.place; number = number; left = suc left } }

-- the reader after the next mark
abbrev pub turn : Reader → Mark → Turn
turn reader Mark.Start = framed reader (start_in reader.place)
turn reader Mark.Stop = framed reader Symbol.Stop
turn reader (Mark.Bit bit) = bit_turn reader (shifted reader.number bit) reader.left

-- what is told of it
abbrev pub told : Reading → List Reading
told Reading.Partial = []
told reading = reading ∷ []

-- what marks are read as, one after another
abbrev pub read_from : Reader → List Mark → List Reading
read_from reader [] = []
read_from reader (mark ∷ rest) = told (turn reader mark).reading ++ read_from (turn reader mark).reader rest
