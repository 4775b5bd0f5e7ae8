-- A line that is no command gives no name.
use Rattle.std.proofs.lemmas.Bool.{false≢true}
use Rattle.i3c_lines.proofs.Beginnings.{skipped_is_none}
use Rattle.i3c_tracks.proofs.OnePlan.{no_command}
use Rattle.i3c_tracks.proofs.question.gives.Goals as goal

pub returns-in-Ok-None : goal.returns-in-Ok-None
returns-in-Ok-None c =
    let skipped = rw c.in-Ok-None.field-0-is at c.in-Ok-None.ensures.read in
    (λ yes. absurd (false≢true yes), λ gives. let (command, is, named) = gives in absurd (skipped_is_none c.args.line.now command skipped.1 is.1))

pub returns-in-Err : goal.returns-in-Err
returns-in-Err c = (λ yes. absurd (false≢true yes), λ gives. let (command, is, named) = gives in absurd (no_command c.args.line.now command c.in-Err.ensures.refused.1 is))
