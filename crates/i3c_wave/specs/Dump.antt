-- The text of a value change dump (IEEE 1364).
use Rattle.std.specs.Prelude.{ℕ, ◌+◌, min, Bool, true, false, List, [], ◌∷◌, ◌++◌, codes, decimal, if◌then◌else◌}
use Rattle.i3c_frame.specs.declared.symbols.Symbol.{Symbol}
use Rattle.i3c_frame.specs.declared.symbols.Symbol.TheVariants.{Start}
use Rattle.i3c_frame.specs.Texts.{text_of}
use Rattle.i3c_wave.specs.declared.levels.Level.{Level}
use Rattle.i3c_wave.specs.declared.timing.Timing.{Timing}
use Rattle.i3c_wave.specs.declared.content.Content.{Content}
use Rattle.i3c_wave.specs.declared.wave.Wave.{Wave}
use Rattle.i3c_wave.specs.Levels.{high, levels_of}
use Rattle.i3c_wave.specs.Timing.{lasting, timing_of}

-- a line of text
abbrev pub line : List ℕ → List ℕ
line text = text ++ 10 ∷ []

-- a later time, in ns; the last one that a dump can have is 2 ^ 64 - 1
abbrev pub later : ℕ → ℕ → ℕ
later time ns = min (time + ns) 18446744073709551615

-- the line of a time
abbrev pub stamp_text : ℕ → List ℕ
stamp_text time = codes "#" ++ (decimal time ++ 10 ∷ [])

-- how a line changes, if it does
abbrev pub change_text : ℕ → Bool → Bool → List ℕ
change_text name true true = []
change_text name false false = []
change_text name false true = 49 ∷ name ∷ 10 ∷ []
change_text name true false = 48 ∷ name ∷ 10 ∷ []

-- how SDA changes behind a falling edge of SCL at this time, if it does
abbrev pub delayed_text : ℕ → Bool → Bool → List ℕ
delayed_text time true true = []
delayed_text time false false = []
delayed_text time old new = stamp_text (later time 10) ++ change_text 100 old new

-- how SDA comes to a level
abbrev pub sda_text : Wave → Level → List ℕ
sda_text wave level = if level.scl then change_text 100 wave.level.sda level.sda else delayed_text wave.time wave.level.sda level.sda

-- how the lines come to a level, and the time at which it ends
abbrev pub level_text : Timing → Wave → Level → List ℕ
level_text timing wave level = change_text 99 wave.level.scl level.scl ++ (sda_text wave level ++ stamp_text (later wave.time (lasting timing level)))

-- the dump after a level
abbrev pub moved : Timing → Wave → Level → Wave
moved timing wave level = record wave { time = later wave.time (lasting timing level); level = level }

-- the lines that levels print
abbrev pub levels_text : Timing → Wave → List Level → List ℕ
levels_text timing wave [] = []
levels_text timing wave (level ∷ rest) = level_text timing wave level ++ levels_text timing (moved timing wave level) rest

-- the dump after levels
abbrev pub after_levels : Timing → Wave → List Level → Wave
after_levels timing wave [] = wave
after_levels timing wave (level ∷ rest) = after_levels timing (moved timing wave level) rest

-- a START begins the next frame
abbrev pub begun : Wave → Symbol → Wave
begun wave Start = record wave { frame = min (wave.frame + 1) 18446744073709551615 }
begun wave symbol = wave

-- the number of a frame that a symbol begins
abbrev pub frame_text : Wave → Symbol → List ℕ
frame_text wave Start = codes "r" ++ (decimal wave.frame ++ line (codes " f"))
frame_text wave symbol = []

-- a text that only a full dump has
abbrev pub in_full : Content → List ℕ → List ℕ
in_full Content.Full text = text
in_full Content.Wires text = []

-- the number of a frame that a symbol begins, and the symbol's text
abbrev pub mark_text : Wave → Symbol → List ℕ
mark_text wave symbol = in_full wave.content (frame_text wave symbol ++ (codes "s" ++ (text_of symbol ++ line (codes " s"))))

-- what a dump has for a symbol: its text, unless it is plain, and its levels
abbrev pub symbol_dump : ℕ → Wave → Symbol → List ℕ
symbol_dump legacies wave symbol = mark_text (begun wave symbol) symbol ++ levels_text (timing_of legacies symbol) (begun wave symbol) (levels_of symbol)

-- the dump after a symbol
abbrev pub after_symbol : ℕ → Wave → Symbol → Wave
after_symbol legacies wave symbol = after_levels (timing_of legacies symbol) (begun wave symbol) (levels_of symbol)

-- what a dump has for symbols, one after another
abbrev pub symbols_dump : ℕ → Wave → List Symbol → List ℕ
symbols_dump legacies wave [] = []
symbols_dump legacies wave (symbol ∷ rest) = symbol_dump legacies wave symbol ++ symbols_dump legacies (after_symbol legacies wave symbol) rest

-- a free bus, before its first frame
abbrev pub free_bus : Content → Wave
free_bus content = record { time = 1000; level = high true; frame = 0; content = content }

-- what a plain dump has before its first symbol: the two wires, and the free bus
abbrev pub plain_preamble : List ℕ
plain_preamble =
    line (codes "$version i3cbus wave $end")
    ++ (line (codes "$timescale 1 ns $end")
    ++ (line (codes "$scope module i3c $end")
    ++ (line (codes "$var wire 1 c scl $end")
    ++ (line (codes "$var wire 1 d sda $end")
    ++ (line (codes "$upscope $end")
    ++ (line (codes "$enddefinitions $end")
    ++ (line (codes "#0")
    ++ (line (codes "1c")
    ++ (line (codes "1d")
    ++ line (codes "#1000"))))))))))

-- what a dump has before its first symbol: its signals, and the free bus
abbrev pub preamble : Content → List ℕ
preamble Content.Wires = plain_preamble
preamble Content.Full =
    line (codes "$version i3cbus wave $end")
    ++ (line (codes "$timescale 1 ns $end")
    ++ (line (codes "$scope module i3c $end")
    ++ (line (codes "$var wire 1 c scl $end")
    ++ (line (codes "$var wire 1 d sda $end")
    ++ (line (codes "$var string 1 s symbol $end")
    ++ (line (codes "$var real 64 f frame $end")
    ++ (line (codes "$upscope $end")
    ++ (line (codes "$enddefinitions $end")
    ++ (line (codes "#0")
    ++ (line (codes "1c")
    ++ (line (codes "1d")
    ++ (line (codes "r0 f")
    ++ line (codes "#1000")))))))))))))

-- the dump of a wire, with these addresses of legacy targets
abbrev pub dump_text : ℕ → Content → List Symbol → List ℕ
dump_text legacies content symbols = preamble content ++ symbols_dump legacies (free_bus content) symbols
