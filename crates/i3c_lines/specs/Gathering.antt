-- What was read of a line.
use Rattle.std.specs.Prelude.{ℕ, List}
use Rattle.i3c_lines.specs.declared.line.Line.{Line}

-- the first bytes of a line that is read in pieces
abbrev pub gathered : Line → List ℕ
gathered line = line.bytes.items
