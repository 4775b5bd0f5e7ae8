-- A picture of a script: a row for each of its lines.
use Rattle.std.specs.Prelude.{ℕ, max, List, [], ◌∷◌, ◌++◌, codes, decimal}
use Rattle.i3c_frame.specs.declared.symbols.Symbol.{Symbol}
use Rattle.i3c_draw.specs.declared.pen.Pen.{Pen}
use Rattle.i3c_draw.specs.declared.picture.Picture.{Picture}
use Rattle.i3c_draw.specs.Rows.{after_wire, below_printed, below_wire, farther, line_text, printed_text, wire_text}

-- a line of a script that was run: its bytes, what it printed, and its wire
pub record Drawn : Type 0 where
  pub line : List ℕ
  pub printed : List ℕ
  pub wire : List Symbol

-- how wide a script's line may be: beside its wire, or alone
abbrev pub line_room : List Symbol → ℕ
line_room [] = 916
line_room (symbol ∷ rest) = 216

-- the row of a line, from a pen on that is at the left end
abbrev pub row_text : Pen → Drawn → List ℕ
row_text pen drawn = line_text pen.y (line_room drawn.wire) drawn.line ++ (printed_text pen.y drawn.printed ++ wire_text pen drawn.wire)

-- the top of the next row: below each part of this one, whose wire goes on from this pen
abbrev pub row_end : ℕ → Pen → List ℕ → ℕ
row_end y behind printed = max (farther y 20) (max (farther (below_printed y printed) 6) (below_wire behind))

-- the pen of the next row: the lines stay at the levels at which this row left them
abbrev pub next_row : ℕ → Pen → List ℕ → Pen
next_row y behind printed = record behind { x = 232; y = row_end y behind printed }

-- the pen after a row
abbrev pub after_row : Pen → Drawn → Pen
after_row pen drawn = next_row pen.y (after_wire pen drawn.wire) drawn.printed

-- a line of text
abbrev pub line : List ℕ → List ℕ
line text = text ++ 10 ∷ []

-- what is below the height: the colours, light and dark, and which colour is whose
abbrev pub legend : List ℕ
legend =
    line (codes "' font-family='monospace' font-size='11'>")
    ++ (line (codes "<style>")
    ++ (line (codes "svg{background:#fff}text{fill:#222;white-space:pre}path{stroke:#222;fill:none}rect{stroke:#fff}")
    ++ (line (codes ".c{fill:#a8cdf5}.t{fill:#b2dfae}.b{fill:#f8d384}.n{fill:#ddd}")
    ++ (line (codes "@media(prefers-color-scheme:dark){svg{background:#161616}text{fill:#eee}path{stroke:#eee}rect{stroke:#161616}")
    ++ (line (codes ".c{fill:#1d4f86}.t{fill:#2c6030}.b{fill:#7a5410}.n{fill:#444}}")
    ++ (line (codes "</style>")
    ++ (line (codes "<rect class='c' x='232' y='8' width='72' height='16'/><text x='235' y='20'>controller</text>")
    ++ (line (codes "<rect class='t' x='312' y='8' width='72' height='16'/><text x='315' y='20'>target</text>")
    ++ (line (codes "<rect class='b' x='392' y='8' width='72' height='16'/><text x='395' y='20'>both</text>")
    ++ (line (codes "<rect class='n' x='472' y='8' width='72' height='16'/><text x='475' y='20'>nobody</text>")
    ++ line (codes "<text x='560' y='20'>above: SCL, below: SDA</text>")))))))))))

-- the beginning of a picture so high
abbrev pub head_text : ℕ → List ℕ
head_text height = codes "<svg xmlns='http://www.w3.org/2000/svg' width='1200' height='" ++ (decimal height ++ legend)

-- a whole picture with these rows, so high
abbrev pub picture_text : Picture → List ℕ
picture_text picture = head_text picture.pen.y ++ (picture.rows ++ line (codes "</svg>"))
