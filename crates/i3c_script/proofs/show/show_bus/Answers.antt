use Rattle.i3c_script.specs.Pieces.{show_pieces}
use Rattle.i3c_script.proofs.Hearing.{text_on}
use Rattle.i3c_script.proofs.show.show_bus.Goals as goal

pub returns : goal.returns
returns g c = text_on c.hear_bus.result c.args.text.now c.hear_bus.new.listener (show_pieces g.N.Naming.kept c.args.forgotten c.args.bus.now.state c.args.names.now) c.hear_bus.ensures
