use Rattle.std.proofs.Common.{◌∙◌, ◌++◌, ap, refl, sym}
use Rattle.i3c_draw.specs.Pictures.{line_room}
use Rattle.i3c_draw.specs.Rows.{line_text, printed_text, wire_text}
use Rattle.i3c_draw.proofs.Appended.{one_part}
use Rattle.i3c_draw.proofs.picture.Picture.push_row.Goals as goal

pub returns-clause-rows : goal.returns-clause-rows
returns-clause-rows c =
    let old = c.args.self.now.rows in
    let pen = c.args.self.now.pen in
    let line = line_text pen.y (line_room c.args.wire.now) c.args.line.now in
    let printed = printed_text pen.y c.args.printed.now in
    let wire = wire_text pen c.args.wire.now in
    let whole = old ++ (line ++ (printed ++ wire)) in
    let grown = c.in_ok-push_line.ensures ∙ ap (λ width. old ++ line_text pen.y width c.args.line.now) c.line_room.ensures in
    let part-1 = one_part whole old c.push_line.new.text line (printed ++ wire) refl grown in
    let part-2 = one_part whole c.push_line.new.text c.push_printed.new.text printed wire part-1 c.in_ok-push_printed.ensures in
    c.in_ok-push_wire.ensures.text ∙ sym part-2
