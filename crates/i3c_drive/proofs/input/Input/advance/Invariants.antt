use Rattle.i3c_drive.proofs.Inputs.{HasBegun}
use Rattle.i3c_drive.proofs.input.Input.advance.Given as goal

-- a part of the line came, and no feed
abbrev pub invariant-loop : goal.invariant-loop
invariant-loop g l = HasBegun (g.R.Read.remaining l.fn.reader) (g.R.Read.remaining l.reader) l.fn.self l.self
