use Rattle.std.proofs.Common.{rules}
use Rattle.i3c_runner.proofs.script.Script.settle.Goals as goal

pub returns-in-Err-Memory-clause-memory : goal.returns-in-Err-Memory-clause-memory
returns-in-Err-Memory-clause-memory g c = search rules
