use Rattle.i3c_runner.proofs.CheckRuns.{no_checks}
use Rattle.i3c_runner.proofs.check.check_script.Goals as goal

pub returns-in_default-clause-lines : goal.returns-in_default-clause-lines
returns-in_default-clause-lines g c =
    let start = c.new-check.result.names in (start, c.new-check.ensures.start, no_checks (g.R.Read.remaining c.args.reader.now) (g.W.Write.contents c.args.writer.now) start)
