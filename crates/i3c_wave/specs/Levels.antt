-- What each symbol of a wire is on SCL and SDA.
use Rattle.std.specs.Prelude.{ℕ, zero, suc, ◌==◌, Bool, true, false, not, List, [], ◌∷◌, ◌++◌, drop, flat_map}
use Rattle.std.specs.Int.{bit_at}
use Rattle.i3c_frame.specs.declared.symbols.Symbol.{Symbol}
use Rattle.i3c_frame.specs.declared.symbols.Symbol.TheVariants.{Start, Repeated, Stop, Header, Word, Identity, AddressByte, LegacyWord}
use Rattle.i3c_wave.specs.declared.levels.Level.{Level}
use Rattle.i3c_wave.specs.declared.levels.Levels.{Levels}

-- SCL is low, with SDA at a bit
abbrev pub low : Bool → Level
low bit = record { scl = false; sda = bit }

-- SCL is high, with SDA at a bit
abbrev pub high : Bool → Level
high bit = record { scl = true; sda = bit }

-- the last `count` bits of a number, the most significant first
unfoldable pub bits : ℕ → ℕ → List Bool
bits zero number = []
bits (suc count) number = (bit_at number count == 1) ∷ bits count number

-- the bits of a symbol, as they are sent: an ACK is 0
abbrev pub bits_of : Symbol → List Bool
bits_of (Header address read ack) = bits 7 address ++ (read ∷ not ack ∷ [])
bits_of (Word word) = bits 8 word.byte ++ word.t ∷ []
bits_of (Identity number) = bits 64 number
bits_of (AddressByte byte ack) = bits 8 byte ++ not ack ∷ []
bits_of (LegacyWord byte ack) = bits 8 byte ++ not ack ∷ []
bits_of _ = []

-- one clock for each bit: SDA takes it while SCL is low, and keeps it while SCL is high
abbrev pub clocked : List Bool → List Level
clocked [] = []
clocked (bit ∷ rest) = low bit ∷ high bit ∷ clocked rest

-- the levels of a symbol: for START SDA falls while SCL is high, for STOP it rises, and otherwise each bit is clocked
abbrev pub levels_of : Symbol → List Level
levels_of Start = high false ∷ []
levels_of Repeated = low true ∷ high true ∷ high false ∷ []
levels_of Stop = low false ∷ high false ∷ high true ∷ []
levels_of symbol = clocked (bits_of symbol)

-- the levels of symbols, one after another
abbrev pub wire_levels : List Symbol → List Level
wire_levels symbols = flat_map levels_of symbols

-- the levels of a symbol that are still to come
abbrev pub levels_left : Levels → List Level
levels_left levels = drop levels.index (levels_of levels.symbol)
