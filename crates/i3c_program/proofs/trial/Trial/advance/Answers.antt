use Rattle.std.proofs.Common.{subst}
use Rattle.i3c_program.specs.declared.word.Word.{Word}
use Rattle.i3c_program.specs.Words.{IsWord}
use Rattle.i3c_program.proofs.Written.{if_ok}
use Rattle.i3c_program.proofs.trial.Trial.advance.Goals as goal

pub returns-in-Sends : goal.returns-in-Sends
returns-in-Sends c = if_ok _ _ c.send.result (λ came comes. (Word.Sends c.in-Sends.sent, subst (λ w. IsWord c.args.line.now w) c.in-Sends.is c.in_ok-read_word.ensures, comes)) c.send.ensures
