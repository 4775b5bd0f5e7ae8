use Rattle.i3c_wave.specs.Found.{found_in}
use Rattle.i3c_wave.proofs.CaptureLaws.{closing}
use Rattle.i3c_wave.proofs.capture_run.end_text.Goals as goal

pub returns-in-Ok : goal.returns-in-Ok
returns-in-Ok c =
    closing c.args.scl.now c.args.sda.now (record { reached = c.args.reached.now; word = c.args.word.now; found = found_in c.args.captured.now })
    (record { reached = c.end_word.new.self; word = c.end_word.new.word; found = found_in c.end_word.new.captured }) c.close.result (found_in c.close.new.captured) c.in-Ok.ensures c.close.ensures
