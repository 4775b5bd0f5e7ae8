-- What a program may not send isn't read.
use Rattle.std.proofs.Common.{◌∙◌, arith, sym}
use Rattle.i3c_scene.proofs.Replied.{many_unsent, past_unsent}
use Rattle.i3c_scene.proofs.program_line.ProgramLine.read.Goals as goal

pub returns-then-sends_many : goal.returns-then-sends_many
returns-then-sends_many c = λ command may.
    many_unsent c.args.text.now c.in-Some.command command (omega (arith, c.if-text-gt-LINE_LENGTH.false), c.in-Some.ensures) (sym c.sends_many.ensures ∙ c.if-sends_many.true) may

pub returns-then-tells_past : goal.returns-then-tells_past
returns-then-tells_past c = λ command may.
    past_unsent c.args.text.now c.in-Some.command command (omega (arith, c.if-text-gt-LINE_LENGTH.false), c.in-Some.ensures) (sym c.tells_past.ensures ∙ c.if-tells_past.true) may
