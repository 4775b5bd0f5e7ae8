use Rattle.i3c_runner.proofs.WatchRuns.{prints_the_same}
use Rattle.i3c_runner.proofs.laws.watched_lines_print_the_same.Goals as goal

pub returns : goal.returns
returns c watching number lines numbers echo = prints_the_same watching number lines numbers echo
