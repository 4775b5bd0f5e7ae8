-- A line that may be sent says that.
use Rattle.std.proofs.Common.{◌≡◌, subst}
use Rattle.std.specs.Prelude.{MatchOption}
use Rattle.i3c_lines.specs.declared.command.Command.{Command}
use Rattle.i3c_scene.specs.Replying.{MaySend}
use Rattle.i3c_program.specs.Words.{IsSaid}
use Rattle.i3c_program.specs.declared.word.Word.{Word}
use Rattle.i3c_program.proofs.Said.{said_sent}
use Rattle.i3c_program.proofs.word.read_command.Goals as goal

pub returns-in-Some : goal.returns-in-Some
returns-in-Some c =
    let (command, may, is) = c.sent.ensures in
    let same : c.in-Some.said ≡ c.args.line.now = subst (λ o. MatchOption o ((command : Command) → MaySend c.args.line.now command → ⊥) (λ line. line ≡ c.args.line.now)) c.in-Some.is c.in_ok-said.ensures in
    subst (λ line. IsSaid line (Word.Sends c.sent.result)) same (command, may.0, said_sent c.in-Some.said command c.sent.result may.1 may.2 is)
