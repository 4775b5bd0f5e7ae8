use Rattle.i3c_drive.proofs.Served.{ServedSoFar}
use Rattle.i3c_drive.proofs.serving.answer_lines.Given as goal

-- the lines before were answered
abbrev pub invariant-loop-number : goal.invariant-loop-number
invariant-loop-number g l = ServedSoFar g.A.Answerer.answers (g.R.Read.remaining l.fn.reader) (g.R.Read.remaining l.reader) (g.W.Write.contents l.fn.writer) (g.W.Write.contents l.writer) l.input l.fn.answerer l.answerer l.number
