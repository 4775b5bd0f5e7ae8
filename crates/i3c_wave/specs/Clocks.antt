-- What holds of the levels of frames, and of parts of them: SDA where SCL rises, bit by bit.
use Rattle.std.specs.Prelude.{◌≡◌, ⊤, ℕ, ◌+◌, Bool, true, false, not, List, [], ◌∷◌, ◌++◌, Option, Some, flat_map, if◌then◌else◌}
use Rattle.std.specs.List.{slice_get}
use Rattle.i3c_frame.specs.declared.symbols.Symbol.{Symbol}
use Rattle.i3c_frame.specs.declared.symbols.Symbol.TheVariants.{Start, Repeated, Stop, Header}
use Rattle.i3c_wave.specs.declared.levels.Level.{Level}
use Rattle.i3c_wave.specs.Laws.{at_rising_edges}
use Rattle.i3c_wave.specs.Levels.{bits_of, high, wire_levels}

-- SDA where SCL rises in a symbol, if SCL was high before it: a repeated START and a STOP have one rising edge of their own
abbrev pub edges_of : Symbol → List Bool
edges_of Start = []
edges_of Repeated = true ∷ []
edges_of Stop = false ∷ []
edges_of symbol = bits_of symbol

-- SCL is still high at the level that comes next, so that SDA changes there
abbrev pub stays_high : List Level → Bool
stays_high [] = false
stays_high (next ∷ rest) = next.scl

-- SDA where SCL rises between two levels, and falls again before SDA changes
abbrev pub clocked_bit : Level → Level → List Level → List Bool
clocked_bit before level rest = if level.scl then (if before.scl then [] else (if stays_high rest then [] else level.sda ∷ [])) else []

-- the bits that are clocked in levels that follow one: SDA at each rising edge of SCL but those of a repeated START and a STOP
abbrev pub clocked_in : Level → List Level → List Bool
clocked_in before [] = []
clocked_in before (level ∷ rest) = clocked_bit before level rest ++ clocked_in level rest

-- symbols of frames, from within one or from outside; the last frame may go on
abbrev pub AreOfFrames : Bool → List Symbol → Type 0
AreOfFrames inside [] = ⊤
AreOfFrames false (Start ∷ rest) = AreOfFrames true rest
AreOfFrames false (symbol ∷ rest) = ⊥
AreOfFrames true (Start ∷ rest) = ⊥
AreOfFrames true (Stop ∷ rest) = AreOfFrames false rest
AreOfFrames true (symbol ∷ rest) = AreOfFrames true rest

-- SDA at the bit of a frame that has this number for cuts, which is 0 for the ninth
abbrev pub at_bit : Level → List Level → ℕ → Option Bool
at_bit before levels number = slice_get (clocked_in before levels) (8 + number)

-- SDA at the rising edges of SCL is what the symbols have there, one after another, whatever SDA was at before
abbrev pub RisingEdgesAreInOrder : Type 0
RisingEdgesAreInOrder = (sda : Bool) (symbols : List Symbol) → at_rising_edges (high sda) (wire_levels symbols) ≡ flat_map edges_of symbols

-- the bits that are clocked in frames, or in a part of them, are those of their symbols, one after another
abbrev pub FramesHaveTheBitsInOrder : Type 0
FramesHaveTheBitsInOrder = (inside sda : Bool) (symbols : List Symbol) → AreOfFrames inside symbols → clocked_in (high sda) (wire_levels symbols) ≡ flat_map bits_of symbols

-- behind a START or a repeated START, the answer to the header is bit 0, and the bits of the symbols behind it are those from 1 on
abbrev pub BitsHaveTheirNumbers : Type 0
BitsHaveTheirNumbers = (inside sda : Bool) (first : Symbol) (address : ℕ) (read ack : Bool) (rest : List Symbol)
    → bits_of first ≡ [] → AreOfFrames inside (first ∷ Header address read ack ∷ rest)
    → (at_bit (high sda) (wire_levels (first ∷ Header address read ack ∷ rest)) 0 ≡ Some (not ack))
    × ((number : ℕ) → at_bit (high sda) (wire_levels (first ∷ Header address read ack ∷ rest)) (1 + number) ≡ slice_get (flat_map bits_of rest) number)
