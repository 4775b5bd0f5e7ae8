use Rattle.std.proofs.Common.{◌≡◌, ◌++◌, drop}
use Rattle.i3c_script.specs.Printed.{pieces_text}
use Rattle.i3c_program.proofs.telling.push_pieces.Given as goal

abbrev pub invariant-loop-index : goal.invariant-loop-index
invariant-loop-index l = l.text ++ pieces_text (drop l.index l.pieces) ≡ l.initial.text ++ pieces_text l.pieces
