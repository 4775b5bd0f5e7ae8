-- A command is obeyed, and then the expectations that last are tested.
use Rattle.i3c_runner.specs.declared.said.Said.{Said}
use Rattle.i3c_runner.specs.ScriptSteps.{state}
use Rattle.i3c_script.specs.Obeying.{script}
use Rattle.i3c_runner.proofs.Expected.{command_outlasts}
use Rattle.i3c_runner.proofs.script.Script.obey_and_test.Goals as goal

pub returns-clause-reads : goal.returns-clause-reads
returns-clause-reads c line asks =
    let now = state c.args.self.now in
    let old : Said = record { text = c.args.self.now.said.text; heard = c.nothing-self.result } in
    let mid = c.obey_heard-outcome.new.listener in
    let led = script c.obey_heard-outcome.new.self c.obey_heard-outcome.new.names in
    command_outlasts now line c.args.self.now.command old mid c.outlast.new.self.said.text c.obey_heard-outcome.result c.outlast.result led (state c.outlast.new.self) c.nothing-self.ensures asks c.obey_heard-outcome.ensures.obeys c.outlast.ensures.lasts
