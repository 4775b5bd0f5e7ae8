-- The row of a script's line: the line, its wire, and what it printed.
use Rattle.std.specs.Prelude.{ℕ, ◌+◌, ◌-◌, ◌==◌, nat_lt, min, Bool, true, false, List, [], ◌∷◌, ◌++◌, codes, decimal, Option, Some, None, if◌then◌else◌}
use Rattle.i3c_frame.specs.declared.symbols.Symbol.{Symbol}
use Rattle.i3c_frame.specs.declared.symbols.Symbol.TheVariants.{Start}
use Rattle.i3c_frame.specs.Texts.{text_of}
use Rattle.i3c_wave.specs.Levels.{high, levels_of}
use Rattle.i3c_draw.specs.declared.driver.Driver.{Driver}
use Rattle.i3c_draw.specs.declared.driver.Driver.TheVariants.{Controller, Target, Both, Nobody}
use Rattle.i3c_draw.specs.declared.pen.Pen.{Pen}
use Rattle.i3c_wave.specs.declared.levels.Line.TheVariants.{Scl, Sda}
use Rattle.i3c_draw.specs.Driving.{answer_by, bits_by, next_turn}
use Rattle.i3c_draw.specs.Escaped.{escaped, escaped_byte}
use Rattle.i3c_draw.specs.Traces.{last_level, symbol_width, trace_text}

-- a place farther to the right or farther down; the last one is 2 ^ 64 - 1
abbrev pub farther : ℕ → ℕ → ℕ
farther place more = min (place + more) 18446744073709551615

-- the class of a box, which gives its colour
abbrev pub class_of : Driver → List ℕ
class_of Controller = codes "c"
class_of Target = codes "t"
class_of Both = codes "b"
class_of Nobody = codes "n"

-- a box in the colour of a driver
abbrev pub box_text : Driver → ℕ → ℕ → List ℕ
box_text driver x width = codes "<rect class='" ++ (class_of driver ++ (codes "' x='" ++ (decimal x ++ (codes "' width='" ++ (decimal width ++ codes "' height='16'/>")))))

-- the boxes of a symbol: its answer has one of its own
abbrev pub boxes_text : Driver → Option Driver → ℕ → List ℕ
boxes_text bits None width = box_text bits 0 width
boxes_text bits (Some answer) width = box_text bits 0 (width - 8) ++ box_text answer (width - 8) 8

-- what is drawn of a symbol, from the place at which it begins: its boxes, its text, and the traces of the two lines
abbrev pub drawn : Pen → Symbol → List ℕ
drawn pen symbol =
    boxes_text (bits_by pen.turn symbol) (answer_by pen.turn symbol) (symbol_width symbol)
    ++ (codes "<text x='3' y='12'>" ++ (text_of symbol ++ (codes "</text>"
    ++ (trace_text Scl pen.level symbol ++ trace_text Sda pen.level symbol))))

-- a part of the wire, at its place
abbrev pub placed : Pen → List ℕ → List ℕ
placed pen text = codes "<g transform='translate(" ++ (decimal pen.x ++ (codes "," ++ (decimal pen.y ++ (codes ")'>" ++ (text ++ (codes "</g>" ++ 10 ∷ []))))))

-- the next band of the wire, at its left end
abbrev pub next_band : Pen → Pen
next_band pen = record pen { x = 232; y = farther pen.y 58 }

-- where a symbol is drawn: a START begins a band, and so does a symbol for which the band has no room
abbrev pub at_symbol : Pen → Symbol → Pen
at_symbol pen Start = if pen.x == 232 then pen else next_band pen
at_symbol pen symbol = if nat_lt 928 (farther pen.x (symbol_width symbol)) then next_band pen else pen

-- the pen behind a symbol that was drawn
abbrev pub behind : Pen → Symbol → Pen
behind pen symbol = record pen { x = farther pen.x (symbol_width symbol); turn = next_turn pen.turn symbol; level = last_level pen.level (levels_of symbol) }

-- a symbol, where there is room for it
abbrev pub symbol_text : Pen → Symbol → List ℕ
symbol_text pen symbol = placed (at_symbol pen symbol) (drawn (at_symbol pen symbol) symbol)

-- the pen after a symbol
abbrev pub after_symbol : Pen → Symbol → Pen
after_symbol pen symbol = behind (at_symbol pen symbol) symbol

-- the drawing of symbols, one after another
abbrev pub wire_text : Pen → List Symbol → List ℕ
wire_text pen [] = []
wire_text pen (symbol ∷ rest) = symbol_text pen symbol ++ wire_text (after_symbol pen symbol) rest

-- the pen after symbols
abbrev pub after_wire : Pen → List Symbol → Pen
after_wire pen [] = pen
after_wire pen (symbol ∷ rest) = after_wire (after_symbol pen symbol) rest

-- the pen at the beginning of a row, on a free bus
abbrev pub pen_at : ℕ → Pen
pen_at y = record { x = 232; y = y; turn = record { arbitrable = false; reading = false }; level = high true }

-- the whole of a text, which a browser shows where it is pointed at
abbrev pub title_text : List ℕ → List ℕ
title_text text = codes "<title>" ++ (escaped text ++ codes "</title>")

-- the script's line, cut at this width
abbrev pub line_text : ℕ → ℕ → List ℕ → List ℕ
line_text y width line =
    codes "<svg x='8' y='" ++ (decimal y ++ (codes "' width='" ++ (decimal width ++ (codes "' height='16'>" ++ (title_text line ++ (codes "<text y='12'>" ++ (escaped line ++ (codes "</text></svg>" ++ 10 ∷ []))))))))

-- a byte of the output: a line feed ends a line
abbrev pub printed_part : ℕ → List ℕ
printed_part byte = if byte == 10 then codes "</tspan>" else escaped_byte byte

-- the markup before a byte, which begins a line or doesn't
abbrev pub before_byte : Bool → List ℕ
before_byte true = codes "<tspan x='0' dy='14'>"
before_byte false = []

-- what is behind the last byte, where a line would begin, or has begun
abbrev pub behind_bytes : Bool → List ℕ
behind_bytes true = []
behind_bytes false = codes "</tspan>"

-- printed lines, each below the one before; a line begins here, or has begun
abbrev pub printed_lines : Bool → List ℕ → List ℕ
printed_lines begins [] = behind_bytes begins
printed_lines begins (byte ∷ rest) = before_byte begins ++ (printed_part byte ++ printed_lines (byte == 10) rest)

-- the drawing of a line's output
abbrev pub printed_text : ℕ → List ℕ → List ℕ
printed_text y printed =
    codes "<text transform='translate(940," ++ (decimal y ++ (codes ")' y='-2'>" ++ (title_text printed ++ (printed_lines true printed ++ (codes "</text>" ++ 10 ∷ [])))))

-- how far down printed lines go
abbrev pub below_printed : ℕ → List ℕ → ℕ
below_printed y [] = y
below_printed y (byte ∷ rest) = below_printed (if byte == 10 then farther y 14 else y) rest

-- how far down a wire goes
abbrev pub below_wire : Pen → ℕ
below_wire pen = if pen.x == 232 then pen.y else farther pen.y 58
