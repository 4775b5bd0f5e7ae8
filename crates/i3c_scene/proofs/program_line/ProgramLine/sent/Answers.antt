-- Its command says whether lines of the tracks may run before it.
use Rattle.std.proofs.Common.{ap}
use Rattle.std.specs.Prelude.{if◌then◌else◌}
use Rattle.i3c_every.specs.declared.sent.Sent.{Sent}
use Rattle.i3c_scene.proofs.program_line.ProgramLine.sent.Goals as goal

pub returns-then-meets : goal.returns-then-meets
returns-then-meets c = (c.command.result.now, c.command.ensures, ap (λ meets. if meets then Sent.Meets c.args.self else Sent.Alone c.args.self) c.if-meets.ensures)

pub returns-else-meets : goal.returns-else-meets
returns-else-meets c = (c.command.result.now, c.command.ensures, ap (λ meets. if meets then Sent.Meets c.args.self else Sent.Alone c.args.self) c.if-meets.ensures)
