-- What holds of the levels of every symbol.
use Rattle.std.specs.Prelude.{◌≡◌, ⊤, Bool, false, List, [], ◌∷◌, ◌++◌, None, flat_map, map, if◌then◌else◌}
use Rattle.i3c_base.specs.declared.addresses.Addresses.{Addresses}
use Rattle.i3c_frame.specs.declared.symbols.Symbol.{Symbol}
use Rattle.i3c_frame.specs.declared.symbols.Symbol.TheVariants.{Start, Repeated, Stop}
use Rattle.i3c_wave.specs.declared.levels.Level.{Level}
use Rattle.i3c_wave.specs.declared.reader.Reading.{Reading}
use Rattle.i3c_wave.specs.Awaited.{IsWireFrom}
use Rattle.i3c_wave.specs.Edges.{AreFrames, free_lines, marks_heard, marks_of}
use Rattle.i3c_wave.specs.Levels.{bits_of, levels_of, wire_levels}
use Rattle.i3c_wave.specs.Reading.{awaiting, read_from}

-- SDA where SCL rises between two levels
abbrev pub risen : Level → Level → List Bool
risen before level = if level.scl then (if before.scl then [] else level.sda ∷ []) else []

-- SDA at each rising edge of SCL, in levels that follow one
abbrev pub at_rising_edges : Level → List Level → List Bool
at_rising_edges before [] = []
at_rising_edges before (level ∷ rest) = risen before level ++ at_rising_edges level rest

-- the symbol has bits
abbrev pub HasBits : Symbol → Type 0
HasBits Start = ⊥
HasBits Repeated = ⊥
HasBits Stop = ⊥
HasBits symbol = ⊤

-- SDA at the rising edges of SCL is a symbol's bits, whatever level comes before
abbrev pub RisingEdgesHaveTheBits : Type 0
RisingEdgesHaveTheBits = (before : Level) (symbol : Symbol) → HasBits symbol → at_rising_edges before (levels_of symbol) ≡ bits_of symbol

-- in the levels of frames, a START is heard for each START and repeated START, a STOP for each STOP, and for each other
-- symbol its bits
abbrev pub EdgesGiveTheMarks : Type 0
EdgesGiveTheMarks = (symbols : List Symbol) → AreFrames false symbols → marks_heard free_lines (wire_levels symbols) ≡ flat_map marks_of symbols

-- the symbols of a wire are read back from its levels, one by one, given the addresses of its legacy targets
abbrev pub SymbolsAreReadBack : Type 0
SymbolsAreReadBack = (legacies : Addresses) (symbols : List Symbol) → IsWireFrom legacies.0 None symbols
    → read_from (awaiting legacies None) (marks_heard free_lines (wire_levels symbols)) ≡ map Reading.Symbol symbols
