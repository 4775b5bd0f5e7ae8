-- A script's text in XML.
use Rattle.std.specs.Prelude.{ℕ, ◌==◌, nat_lt, List, ◌∷◌, [], ◌++◌, codes, flat_map, if◌then◌else◌}
use Rattle.i3c_text.specs.Hex.{byte_text}

-- a control byte, as the picture that Unicode has of it, behind U+2400
abbrev pub control_text : ℕ → List ℕ
control_text byte = codes "&#x24" ++ (byte_text byte ++ codes ";")

-- a printed byte of ASCII: the three that begin or end a part of XML have names
abbrev pub printed_byte : ℕ → List ℕ
printed_byte byte = if byte == 38 then codes "&amp;" else (if byte == 60 then codes "&lt;" else (if byte == 62 then codes "&gt;" else byte ∷ []))

-- any byte; one that is no ASCII is U+FFFD
abbrev pub escaped_byte : ℕ → List ℕ
escaped_byte byte = if nat_lt byte 32 then control_text byte else (if nat_lt 126 byte then codes "&#xFFFD;" else printed_byte byte)

-- a text with its special bytes escaped
abbrev pub escaped : List ℕ → List ℕ
escaped text = flat_map escaped_byte text
