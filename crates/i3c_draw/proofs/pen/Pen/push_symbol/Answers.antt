use Rattle.std.proofs.Common.{◌∙◌, ◌++◌, ap}
use Rattle.i3c_draw.specs.Rows.{drawn, placed}
use Rattle.i3c_draw.proofs.pen.Pen.push_symbol.Goals as goal

pub returns-clause-text : goal.returns-clause-text
returns-clause-text c = c.in_ok-push_placed.ensures ∙ ap (λ pen. c.args.text.now ++ placed pen (drawn pen c.args.symbol)) c.at_symbol-pen.ensures
