use Rattle.i3c_lines.proofs.Beginnings.{skipped_is_none}
use Rattle.i3c_lines.proofs.laws.skipped_lines_are_no_commands.Goals as goal

pub returns : goal.returns
returns c line command skipped form = skipped_is_none line command skipped.1 form.1
