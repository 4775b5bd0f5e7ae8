-- Which symbols may follow one another on a wire, and what bits mean there.
use Rattle.std.specs.Prelude.{◌≡◌, ℕ, ◌==◌, ◌/◌, ◌%◌, Bool, true, false, List, [], ◌∷◌, Option, Some, None, if◌then◌else◌}
use Rattle.i3c_base.specs.Sets.{is_in}
use Rattle.i3c_frame.specs.declared.symbols.Symbol.{Symbol}
use Rattle.i3c_frame.specs.Texts.{IsInRange}
use Rattle.i3c_wave.specs.declared.awaited.Awaited.{Awaited}

-- what comes next behind a header: of a legacy target its words, of 7E/W a code, of an assignment's 7E/R with an ACK an identity
abbrev pub awaited_behind : ℕ → Bool → ℕ → Bool → Bool → Awaited
awaited_behind legacies assigning address read ack =
    if is_in legacies address then Awaited.LegacyWord assigning
    else (if address == 126 then (if read then (if assigning then (if ack then Awaited.Identity else Awaited.Word assigning) else Awaited.Word assigning) else Awaited.Code)
    else Awaited.Word assigning)

-- the next thing awaited behind a symbol of bits, if it is allowed there
abbrev pub next_awaited : ℕ → Awaited → Symbol → Option Awaited
next_awaited legacies (Awaited.Header assigning) (Symbol.Header address read ack) = Some (awaited_behind legacies assigning address read ack)
next_awaited legacies Awaited.Code (Symbol.Word word) = Some (Awaited.Word (word.byte == 7))
next_awaited legacies (Awaited.Word assigning) (Symbol.Word word) = Some (Awaited.Word assigning)
next_awaited legacies (Awaited.LegacyWord assigning) (Symbol.LegacyWord byte ack) = Some (Awaited.LegacyWord assigning)
next_awaited legacies Awaited.Identity (Symbol.Identity number) = Some Awaited.AddressByte
next_awaited legacies Awaited.AddressByte (Symbol.AddressByte byte ack) = Some (Awaited.Word true)
next_awaited legacies awaited symbol = None

-- whether the frame is an assignment that goes on
abbrev pub was_assigning : Awaited → Bool
was_assigning (Awaited.Header assigning) = assigning
was_assigning (Awaited.Word assigning) = assigning
was_assigning (Awaited.LegacyWord assigning) = assigning
was_assigning Awaited.Code = false
was_assigning Awaited.Identity = true
was_assigning Awaited.AddressByte = true

-- a repeated START and a STOP are allowed anywhere except where a header is expected
abbrev pub open_place : Awaited → Option Awaited → Option (Option Awaited)
open_place (Awaited.Header assigning) next = None
open_place awaited next = Some next

-- behind a symbol of bits the frame goes on
abbrev pub goes_on : Option Awaited → Option (Option Awaited)
goes_on None = None
goes_on (Some next) = Some (Some next)

-- the next thing awaited behind a symbol, inside a frame or outside one, if the symbol is allowed there
abbrev pub next_place : ℕ → Option Awaited → Symbol → Option (Option Awaited)
next_place legacies None Symbol.Start = Some (Some (Awaited.Header false))
next_place legacies None symbol = None
next_place legacies (Some awaited) Symbol.Start = None
next_place legacies (Some awaited) Symbol.Stop = open_place awaited None
next_place legacies (Some awaited) Symbol.Repeated = open_place awaited (Some (Awaited.Header (was_assigning awaited)))
next_place legacies (Some awaited) symbol = goes_on (next_awaited legacies awaited symbol)

-- from a place on, the symbols may follow one another, and the last frame ends
abbrev pub IsWireFrom : ℕ → Option Awaited → List Symbol → Type 0
IsWireFrom legacies place [] = place ≡ None
IsWireFrom legacies place (symbol ∷ rest) = (next : Option Awaited) × (next_place legacies place symbol ≡ Some next) × IsInRange symbol × IsWireFrom legacies next rest

-- how many bits the symbol has that comes next
abbrev pub bits_in : Option Awaited → ℕ
bits_in None = 0
bits_in (Some Awaited.Identity) = 64
bits_in (Some awaited) = 9

-- the symbol of a START
abbrev pub start_in : Option Awaited → Symbol
start_in None = Symbol.Start
start_in (Some awaited) = Symbol.Repeated

-- a word of these bits
abbrev pub word_of : ℕ → Symbol
word_of number = Symbol.Word (record { byte = number / 2 % 256; t = number % 2 == 1 })

-- the symbol of some bits, as a number
abbrev pub symbol_in : Option Awaited → ℕ → Symbol
symbol_in (Some (Awaited.Header assigning)) number = Symbol.Header (number / 4 % 128) (number / 2 % 2 == 1) (number % 2 == 0)
symbol_in (Some Awaited.Identity) number = Symbol.Identity number
symbol_in (Some Awaited.AddressByte) number = Symbol.AddressByte (number / 2 % 256) (number % 2 == 0)
symbol_in (Some (Awaited.LegacyWord assigning)) number = Symbol.LegacyWord (number / 2 % 256) (number % 2 == 0)
symbol_in place number = word_of number
