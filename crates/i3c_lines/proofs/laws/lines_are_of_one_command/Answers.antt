use Rattle.std.proofs.Common.{◌∙◌, sym}
use Rattle.i3c_lines.specs.Forms.{tokens_of}
use Rattle.i3c_lines.proofs.Meanings.{meant_is}
use Rattle.i3c_lines.proofs.laws.lines_are_of_one_command.Goals as goal

pub returns : goal.returns
returns c line one other first second = sym (meant_is (tokens_of line) one first.1) ∙ meant_is (tokens_of line) other second.1
