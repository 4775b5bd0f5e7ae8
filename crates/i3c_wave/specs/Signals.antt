-- Which signal of a dump has a name, and which bit of it is a line.
use Rattle.std.specs.Prelude.{◌≡◌, ℕ, ◌+◌, ◌-◌, ◌==◌, nat_lt, Bool, ◌&&◌, ◌||◌, List, [], ◌∷◌, ◌++◌, length, take, drop, position, codes, bytes_eq, slice_get, ⊤, Option, Some, None, Result, MatchResult, if◌then◌else◌}
use Rattle.std.specs.Option.{option_and_then}
use Rattle.i3c_wave.specs.declared.capture_fault.CaptureFault.{CaptureFault}
use Rattle.i3c_wave.specs.declared.dump_word.Code.{Code}
use Rattle.i3c_wave.specs.declared.signals.BitRange.{BitRange}
use Rattle.i3c_wave.specs.declared.signals.LineSource.{LineSource}
use Rattle.i3c_wave.specs.Declarations.{Declarations}
use Rattle.i3c_wave.specs.DumpWords.{number_of}

-- a call leads to these declarations, or memory is short
abbrev pub Grown : Declarations → Declarations → Result ⊤ CaptureFault → Type 0
Grown wanted new result = MatchResult result (λ _. new ≡ wanted) (λ fault. fault ≡ CaptureFault.Memory)

-- before the first declaration
abbrev pub no_signals : Declarations
no_signals = record { path = []; scopes = []; name = []; names = [] }

-- a scope begins
abbrev pub entered : Declarations → Declarations
entered signals = record signals { scopes = signals.scopes ++ length signals.path ∷ [] }

-- the scope that began last has this name
abbrev pub scope_named : Declarations → List ℕ → Declarations
scope_named signals word = record signals { path = signals.path ++ word ++ 46 ∷ [] }

-- the scope that began last ends, if there is one: where the path was this long before it
abbrev pub left_to : Declarations → Option ℕ → Declarations
left_to signals None = signals
left_to signals (Some before) = record signals { path = take before signals.path; scopes = take (length signals.scopes - 1) signals.scopes }

abbrev pub left : Declarations → Declarations
left signals = left_to signals (slice_get signals.scopes (length signals.scopes - 1))

-- another word of a signal's name
abbrev pub named_on : Declarations → List ℕ → Declarations
named_on signals word = record signals { name = signals.name ++ word }

-- a line with a signal's name, behind its scopes
abbrev pub name_line : Declarations → List ℕ
name_line signals = 10 ∷ codes "    " ++ (signals.path ++ signals.name)

-- a signal was declared
abbrev pub listed : Declarations → Declarations
listed signals = record signals { name = []; names = signals.names ++ name_line signals }

-- the length of a name up to its last bracket
abbrev pub base_from : ℕ → ℕ → List ℕ → ℕ
base_from base count [] = base
base_from base count (byte ∷ rest) = base_from (if byte == 91 then count else base) (count + 1) rest

abbrev pub base_len : List ℕ → ℕ
base_len name = base_from (length name) 0 name

-- a bit alone, or the bits from one to another
abbrev pub range_with : List ℕ → Option ℕ → Option BitRange
range_with inner None = option_and_then (λ bit. Some (record { first = bit; last = bit })) (number_of inner)
range_with inner (Some colon) =
    option_and_then (λ first. option_and_then (λ last. Some (record { first = first; last = last })) (number_of (drop (colon + 1) inner))) (number_of (take colon inner))

abbrev pub range_in : List ℕ → Option BitRange
range_in inner = range_with inner (position (λ byte. byte == 58) inner)

-- the range that a text in brackets is, if it is one
abbrev pub range_of : List ℕ → Option ℕ → Option BitRange
range_of text None = None
range_of text (Some last) = if last == 93 && nat_lt 1 (length text) then range_in (take (length text - 2) (drop 1 text)) else None

-- the range at the end of a name, if it has one
abbrev pub range_at_end : List ℕ → Option BitRange
range_at_end name = range_of (drop (base_len name) name) (slice_get name (length name - 1))

-- a name without its range
abbrev pub base_before : List ℕ → Option BitRange → List ℕ
base_before name None = name
base_before name (Some range) = take (base_len name) name

abbrev pub base_of : List ℕ → List ℕ
base_of name = base_before name (range_at_end name)

-- a name is that of a signal, with its scopes or without
abbrev pub is_named : List ℕ → List ℕ → List ℕ → Bool
is_named path base wanted = bytes_eq wanted base || (bytes_eq (take (length path) wanted) path && bytes_eq (drop (length path) wanted) base)

-- the bits of a signal of this width, which are numbered down to 0 where it doesn't say otherwise
abbrev pub range_or : Option BitRange → ℕ → BitRange
range_or None width = record { first = width - 1; last = 0 }
range_or (Some range) width = range

-- where a bit is in a range, counted from the last
abbrev pub bit_offset : BitRange → ℕ → Option ℕ
bit_offset range bit = if nat_lt range.first range.last
    then (if nat_lt bit range.first || nat_lt range.last bit then None else Some (range.last - bit))
    else (if nat_lt bit range.last || nat_lt range.first bit then None else Some (bit - range.last))

-- the bit that is asked for: a signal of one bit is named without it
abbrev pub bit_asked : Option BitRange → BitRange → ℕ → Option ℕ
bit_asked None range width = if width == 1 then Some 0 else None
bit_asked (Some asked) range width = if asked.first == asked.last then bit_offset range asked.first else None

abbrev pub bit_of_signal : List ℕ → List ℕ → ℕ → Option ℕ
bit_of_signal name wanted width = bit_asked (range_at_end wanted) (range_or (range_at_end name) width) width

-- a bit of a signal of this code
abbrev pub source_with : Option Code → Option ℕ → Option LineSource
source_with (Some code) (Some bit) = Some (record { code = code; bit = bit })
source_with code bit = None

-- the signal that was declared has the name that is wanted, and then it is this source of a line
abbrev pub source_in : Declarations → List ℕ → Option Code → Option ℕ → Option LineSource
source_in signals wanted code width = if is_named signals.path (base_of signals.name) (base_of wanted)
    then source_with code (option_and_then (bit_of_signal signals.name wanted) width) else None
