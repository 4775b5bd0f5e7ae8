use Rattle.std.proofs.Common.{◌≡◌, ◌++◌, length}
use Rattle.i3c_draw.specs.Rows.{after_wire, wire_text}
use Rattle.i3c_draw.proofs.pen.Pen.push_wire.Given as goal

-- the symbols that are left to append
abbrev pub invariant-loop-rest : goal.invariant-loop-rest
invariant-loop-rest l = record {
  text : l.text ++ wire_text l.self l.rest ≡ l.initial.text ++ wire_text l.initial.self l.fn.wire;
  pen : after_wire l.self l.rest ≡ after_wire l.initial.self l.fn.wire;
}

abbrev pub decreases-loop-rest : goal.decreases-loop-rest
decreases-loop-rest l = length l.rest
