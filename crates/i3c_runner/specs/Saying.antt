-- What a script's line prints, and what facts know of it.
use Rattle.i3c_script.specs.declared.piece.Piece.{Piece}
use Rattle.i3c_script.specs.Printed.{with_piece}
use Rattle.i3c_facts.specs.Hearing.{heard_with}
use Rattle.i3c_runner.specs.declared.said.Said.{Said}

-- one more piece: it is printed, and facts know of it
abbrev pub said_with : Said → Piece → Said
said_with said piece = record { text = with_piece said.text piece; heard = heard_with said.heard piece }
