use Rattle.std.proofs.Common.{◌++◌}
use Rattle.i3c_draw.specs.Rows.{after_wire, wire_text}
use Rattle.i3c_draw.proofs.Wires.{next_pen, next_text}
use Rattle.i3c_draw.proofs.pen.Pen.push_wire.Goals as goal

pub loop-rest-preserved : goal.loop-rest-preserved
loop-rest-preserved c =
    let pen = c.loop-rest.self in
    let new = c.push_symbol.new.self in
    let rest = c.loop-rest.rest.now in
    let first = c.symbol-item.result in record {
      text = next_text pen new rest first c.loop-rest.text c.push_symbol.new.text (c.args.text.now ++ wire_text c.args.self.now c.args.wire.now) c.in-len1-up.len_at_least c.symbol-item.is c.loop-rest.invariant.text c.in_ok-push_symbol.ensures.text c.in_ok-push_symbol.ensures.pen;
      pen = next_pen pen new (after_wire c.args.self.now c.args.wire.now) rest first c.in-len1-up.len_at_least c.symbol-item.is c.loop-rest.invariant.pen c.in_ok-push_symbol.ensures.pen;
    }
