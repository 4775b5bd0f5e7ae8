use Rattle.std.proofs.Common.{◌++◌, ap}
use Rattle.i3c_program.specs.declared.reason.Reason.{Reason}
use Rattle.i3c_program.specs.Answers.{refused_line, unmet_text}
use Rattle.i3c_program.proofs.Written.{on_ok}
use Rattle.i3c_program.proofs.trial.Trial.push_broken.Goals as goal

pub returns-in-Broken : goal.returns-in-Broken
returns-in-Broken c =
    on_ok c.push_unmet.result (λ w. (_, (c.in-Broken.broken, c.in-Broken.is, ap (λ t. unmet_text c.in-Broken.broken.number t ++ refused_line c.args.number Reason.Unmet) c.as_bytes.ensures), w)) c.push_unmet.ensures
