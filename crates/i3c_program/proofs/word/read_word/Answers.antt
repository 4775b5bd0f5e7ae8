-- A line that is too long has no form in capitals either.
use Rattle.std.proofs.Common.{inr, refl}
use Rattle.i3c_lines.specs.Capitals.{in_capitals}
use Rattle.i3c_lines.proofs.CapitalLaws.{long_capitals}
use Rattle.i3c_program.proofs.word.read_word.Goals as goal

pub returns-in-Err : goal.returns-in-Err
returns-in-Err c = inr (inr (in_capitals c.args.line.now, inr (c.in-Err.ensures.refused.1, refl), inr (long_capitals c.args.line.now c.in-Err.ensures.longer, refl)))
