use Rattle.i3c_drive.proofs.Runs.{driven_all, driven_part}
use Rattle.i3c_drive.proofs.driver.run_driven.Goals as goal

pub returns-in-Ok-clause-answers : goal.returns-in-Ok-clause-answers
returns-in-Ok-clause-answers g c =
    let start = c.new-driver.ensures in
    driven_all c.args.form (g.R.Read.remaining c.args.reader.now) (g.W.Write.contents c.args.writer.now) (g.W.Write.contents c.answer_lines-outcome.new.writer) c.new-driver.result c.answer_lines-outcome.new.answerer start.begun start.form start.knows start.refused
    (record { refused = c.retire-refused.result; unmet = 0 }) c.retire-refused.ensures c.in-Ok.ensures.served

pub returns-in-Err-clause-answers : goal.returns-in-Err-clause-answers
returns-in-Err-clause-answers g c =
    let start = c.new-driver.ensures in
    driven_part c.args.form (g.R.Read.remaining c.args.reader.now) (g.W.Write.contents c.args.writer.now) (g.W.Write.contents c.answer_lines-outcome.new.writer) c.new-driver.result c.answer_lines-outcome.new.answerer start.begun start.form start.knows start.refused c.in-Err.fault c.in-Err.ensures.served
