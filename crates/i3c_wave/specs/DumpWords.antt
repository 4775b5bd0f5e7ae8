-- The words of a value change dump (IEEE 1364).
use Rattle.std.specs.Prelude.{ℕ, ◌+◌, ◌*◌, ◌-◌, ◌==◌, nat_lt, Bool, ◌||◌, ◌&&◌, List, [], ◌∷◌, length, position, codes, bytes_eq, Option, Some, None, slice_get, unwrap_or, if◌then◌else◌}
use Rattle.std.specs.Option.{option_and_then}
use Rattle.i3c_wave.specs.declared.capture.Value.{Value}
use Rattle.i3c_wave.specs.declared.dump_word.Code.{Code}
use Rattle.i3c_wave.specs.declared.dump_word.Command.{Command}
use Rattle.i3c_wave.specs.declared.dump_word.Lead.{Lead}

-- the commands that come before the values of signals
abbrev pub values_of : List ℕ → Command
values_of word = if bytes_eq word (codes "$dumpvars") || bytes_eq word (codes "$dumpall") then Command.Values
    else (if bytes_eq word (codes "$dumpon") || bytes_eq word (codes "$dumpoff") then Command.Values else Command.Other)

-- the commands that declare, and those
abbrev pub declaring_of : List ℕ → Command
declaring_of word = if bytes_eq word (codes "$scope") then Command.Scope
    else (if bytes_eq word (codes "$upscope") then Command.UpScope
    else (if bytes_eq word (codes "$enddefinitions") then Command.EndDefinitions else values_of word))

-- the command of a word
abbrev pub command_of : List ℕ → Command
command_of word = if bytes_eq word (codes "$end") then Command.End
    else (if bytes_eq word (codes "$timescale") then Command.Timescale
    else (if bytes_eq word (codes "$var") then Command.Var
    else declaring_of word))

-- the code of one to four bytes
abbrev pub code_of : List ℕ → Option Code
code_of [] = None
code_of (a ∷ []) = Some (record { first = a; second = 0; third = 0; fourth = 0 })
code_of (a ∷ b ∷ []) = Some (record { first = a; second = b; third = 0; fourth = 0 })
code_of (a ∷ b ∷ c ∷ []) = Some (record { first = a; second = b; third = c; fourth = 0 })
code_of (a ∷ b ∷ c ∷ d ∷ []) = Some (record { first = a; second = b; third = c; fourth = d })
code_of (a ∷ b ∷ c ∷ d ∷ e ∷ rest) = None

-- two codes are equal
abbrev pub is_same_code : Code → Code → Bool
is_same_code one other = one.first == other.first && (one.second == other.second && (one.third == other.third && one.fourth == other.fourth))

-- a number with one more digit, if it is one, and fits
abbrev pub digit_more : ℕ → ℕ → Option ℕ
digit_more number digit = if (nat_lt digit 48 || nat_lt 57 digit) || nat_lt 1000000000000000000 number then None else Some (number * 10 + (digit - 48))

-- a number with more digits
abbrev pub number_from : ℕ → List ℕ → Option ℕ
number_from number [] = Some number
number_from number (digit ∷ rest) = option_and_then (λ next. number_from next rest) (digit_more number digit)

-- the same behind a number, where one that is too large stands for none
abbrev pub from_coded : ℕ → List ℕ → Option ℕ
from_coded number digits = if number == 18446744073709551615 then None else number_from number digits

-- the number of decimal digits, at least one
abbrev pub number_of : List ℕ → Option ℕ
number_of [] = None
number_of (digit ∷ rest) = number_from 0 (digit ∷ rest)

-- the number of bytes of a word before its first letter
abbrev pub digits_in : List ℕ → ℕ
digits_in word = unwrap_or (position (λ byte. nat_lt 57 byte) word) (length word)

-- what a word between commands begins with
abbrev pub lead_of : ℕ → Lead
lead_of first = if first == 36 then Lead.Command
    else (if first == 35 then Lead.Time
    else (if first == 48 then Lead.Low
    else (if first == 49 then Lead.High
    else (if (first == 120 || first == 88) || (first == 122 || first == 90) then Lead.NoLevel
    else (if first == 98 || first == 66 then Lead.Vector
    else (if (first == 114 || first == 82) || (first == 115 || first == 83) then Lead.Number else Lead.Other))))))

-- the value of a digit
abbrev pub digit_value : ℕ → Value
digit_value digit = if digit == 48 then Value.Low else (if digit == 49 then Value.High else Value.Unknown)

-- the value of the digits that may be left out before one
abbrev pub extended : Value → Value
extended Value.Unknown = Value.Unknown
extended value = Value.Low

-- the value at a place, or none
abbrev pub digit_at : Option ℕ → Value
digit_at None = Value.Unknown
digit_at (Some digit) = digit_value digit

-- the value of a vector's bit, counted from the last: a bit that isn't written is that of the first digit, if this has no
-- level, and otherwise low
abbrev pub bit_in : List ℕ → ℕ → Value
bit_in [] bit = Value.Unknown
bit_in (first ∷ rest) bit = if nat_lt (length rest) bit then extended (digit_value first) else digit_at (slice_get (first ∷ rest) (length rest - bit))
