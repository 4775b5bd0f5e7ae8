-- What a dump of a script has beside the wire: its lines, and what they print.
use Rattle.std.specs.Prelude.{ℕ, ◌/◌, ◌%◌, ◌+◌, ◌==◌, ◌||◌, nat_lt, List, [], ◌∷◌, ◌++◌, codes, flat_map, if◌then◌else◌}
use Rattle.i3c_wave.specs.declared.content.Content.{Content}
use Rattle.i3c_wave.specs.Dump.{line, plain_preamble}

-- a byte by its three octal digits, behind a backslash
abbrev pub octal_text : ℕ → List ℕ
octal_text byte = 92 ∷ (48 + byte / 64) ∷ (48 + byte / 8 % 8) ∷ (48 + byte % 8) ∷ []

-- a byte of a string: printed ASCII is itself, except for the space and the backslash
abbrev pub string_byte : ℕ → List ℕ
string_byte byte = if nat_lt byte 33 || (nat_lt 126 byte || byte == 92) then octal_text byte else byte ∷ []

-- a string variable takes this value
abbrev pub string_text : ℕ → List ℕ → List ℕ
string_text name value = codes "s" ++ (flat_map string_byte value ++ (codes " " ++ name ∷ 10 ∷ []))

-- what a script's dump has before its first symbol: its signals, and the free bus
abbrev pub script_preamble : Content → List ℕ
script_preamble Content.Wires = plain_preamble
script_preamble Content.Full =
    line (codes "$version i3cbus wave $end")
    ++ (line (codes "$timescale 1 ns $end")
    ++ (line (codes "$scope module i3c $end")
    ++ (line (codes "$var wire 1 c scl $end")
    ++ (line (codes "$var wire 1 d sda $end")
    ++ (line (codes "$var string 1 s symbol $end")
    ++ (line (codes "$var real 64 f frame $end")
    ++ (line (codes "$var string 1 l line $end")
    ++ (line (codes "$var string 1 p served $end")
    ++ (line (codes "$upscope $end")
    ++ (line (codes "$enddefinitions $end")
    ++ (line (codes "#0")
    ++ (line (codes "1c")
    ++ (line (codes "1d")
    ++ (line (codes "r0 f")
    ++ line (codes "#1000")))))))))))))))
