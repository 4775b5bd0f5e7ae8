-- The traces of SCL and SDA during a symbol.
use Rattle.std.specs.Prelude.{ℕ, List, [], ◌∷◌, ◌++◌, codes, decimal, if◌then◌else◌}
use Rattle.i3c_frame.specs.declared.symbols.Symbol.{Symbol}
use Rattle.i3c_frame.specs.declared.symbols.Symbol.TheVariants.{Start, Repeated, Stop, Identity}
use Rattle.i3c_wave.specs.declared.levels.Level.{Level}
use Rattle.i3c_wave.specs.Levels.{levels_of}
use Rattle.i3c_wave.specs.declared.levels.Line.{Line}
use Rattle.i3c_wave.specs.declared.levels.Line.TheVariants.{Scl, Sda}

-- how far a level of a symbol goes to the right
abbrev pub level_width : Symbol → ℕ
level_width Start = 14
level_width Repeated = 7
level_width Stop = 6
level_width (Identity number) = 2
level_width symbol = 4

-- how far a symbol goes to the right, with all its levels
abbrev pub symbol_width : Symbol → ℕ
symbol_width Start = 14
symbol_width Repeated = 21
symbol_width Stop = 18
symbol_width (Identity number) = 256
symbol_width symbol = 72

-- how far down a line is at a level
abbrev pub depth : Line → Level → ℕ
depth Scl level = if level.scl then 21 else 31
depth Sda level = if level.sda then 36 else 46

-- a line comes to a level and stays there
abbrev pub step_text : Line → ℕ → Level → List ℕ
step_text which width level = codes "V" ++ (decimal (depth which level) ++ (codes "h" ++ decimal width))

-- the same for levels, one after another
abbrev pub steps_text : Line → ℕ → List Level → List ℕ
steps_text which width [] = []
steps_text which width (level ∷ rest) = step_text which width level ++ steps_text which width rest

-- the trace of a line during a symbol, from the level before it on
abbrev pub trace_text : Line → Level → Symbol → List ℕ
trace_text which before symbol = codes "<path d='M0 " ++ (decimal (depth which before) ++ (steps_text which (level_width symbol) (levels_of symbol) ++ codes "'/>"))

-- the last of these levels, or the one before them if there are none
abbrev pub last_level : Level → List Level → Level
last_level before [] = before
last_level before (level ∷ rest) = last_level level rest
