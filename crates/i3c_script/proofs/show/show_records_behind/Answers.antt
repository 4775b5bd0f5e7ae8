use Rattle.i3c_script.specs.Pieces.{behind_pieces}
use Rattle.i3c_script.proofs.Hearing.{text_on}
use Rattle.i3c_script.proofs.show.show_records_behind.Goals as goal

pub returns : goal.returns
returns c = text_on c.hear_records_behind.result c.args.text.now c.hear_records_behind.new.listener (behind_pieces c.args.count c.args.forgotten c.args.records.now) c.hear_records_behind.ensures
