use Rattle.std.proofs.Common.{◌≡◌, [], ◌++◌, length, map}
use Rattle.serde_json.specs.View.{view}
use Rattle.i3c_json.specs.Fields.{symbol_lines}
use Rattle.i3c_json.specs.Values.{text_data}
use Rattle.i3c_json.proofs.symbols.lines_of.Given as goal

-- the lines so far, and those of the pieces that are left
abbrev pub invariant-loop-rest : goal.invariant-loop-rest
invariant-loop-rest l = map view l.values.items ++ map text_data (symbol_lines l.line l.rest) ≡ map text_data (symbol_lines [] l.fn.pieces)

abbrev pub decreases-loop-rest : goal.decreases-loop-rest
decreases-loop-rest l = length l.rest
