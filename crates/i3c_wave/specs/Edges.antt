-- What is heard of the lines: START, STOP, and bits.
use Rattle.std.specs.Prelude.{⊤, Bool, true, false, List, [], ◌∷◌, ◌++◌, Option, Some, None, map, option_to_list, if◌then◌else◌}
use Rattle.i3c_frame.specs.declared.symbols.Symbol.{Symbol}
use Rattle.i3c_frame.specs.declared.symbols.Symbol.TheVariants.{Start, Repeated, Stop}
use Rattle.i3c_wave.specs.declared.edges.Edges.{Edges}
use Rattle.i3c_wave.specs.declared.edges.Mark.{Mark}
use Rattle.i3c_wave.specs.declared.levels.Level.{Level}
use Rattle.i3c_wave.specs.Levels.{bits_of, high}

-- what SDA means that changes while SCL is high
abbrev pub condition : Bool → Bool → Option Mark
condition true false = Some Mark.Start
condition false true = Some Mark.Stop
condition true true = None
condition false false = None

-- a bit that was kept until SCL fell
abbrev pub bit_heard : Option Bool → Option Mark
bit_heard None = None
bit_heard (Some bit) = Some (Mark.Bit bit)

-- the mark that is heard as the lines reach a level
abbrev pub mark_at : Edges → Level → Option Mark
mark_at edges level = if edges.level.scl then (if level.scl then condition edges.level.sda level.sda else bit_heard edges.bit) else None

-- a bit, unless SDA changes
abbrev pub unless_changed : Bool → Bool → Option Bool → Option Bool
unless_changed true true bit = bit
unless_changed false false bit = bit
unless_changed old new bit = None

-- the bit that SDA has kept since SCL rose, if it has
abbrev pub kept_bit : Edges → Level → Option Bool
kept_bit edges level = if level.scl then (if edges.level.scl then unless_changed edges.level.sda level.sda edges.bit else Some level.sda) else None

-- a watcher of the lines, behind a level
abbrev pub edges_after : Edges → Level → Edges
edges_after edges level = record { level = level; bit = kept_bit edges level }

-- what is heard of levels, one after another
abbrev pub marks_heard : Edges → List Level → List Mark
marks_heard edges [] = []
marks_heard edges (level ∷ rest) = option_to_list (mark_at edges level) ++ marks_heard (edges_after edges level) rest

-- a watcher of a free bus
abbrev pub free_lines : Edges
free_lines = record { level = high true; bit = None }

-- what is heard of a symbol
abbrev pub marks_of : Symbol → List Mark
marks_of Start = Mark.Start ∷ []
marks_of Repeated = Mark.Start ∷ []
marks_of Stop = Mark.Stop ∷ []
marks_of symbol = map Mark.Bit (bits_of symbol)

-- symbols of frames, from within one or from outside: outside a frame only a START is allowed, which begins one, and a STOP
-- ends it
abbrev pub AreFrames : Bool → List Symbol → Type 0
AreFrames false [] = ⊤
AreFrames true [] = ⊥
AreFrames false (Start ∷ rest) = AreFrames true rest
AreFrames false (symbol ∷ rest) = ⊥
AreFrames true (Start ∷ rest) = ⊥
AreFrames true (Stop ∷ rest) = AreFrames false rest
AreFrames true (symbol ∷ rest) = AreFrames true rest
