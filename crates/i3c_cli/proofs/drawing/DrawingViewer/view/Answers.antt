use Rattle.i3c_cli.proofs.DrawnOut.{drawn_line}
use Rattle.i3c_cli.proofs.drawing.DrawingViewer.view.Goals as goal

pub returns : goal.returns
returns c = drawn_line c.args.self.now.picture c.push_row.new.self c.args.line.now c.args.printed.now c.args.wire.now c.is_empty.result c.is_empty.ensures c.if-is_empty.false (c.in-Ok.ensures.rows, c.in-Ok.ensures.pen)
