use Rattle.std.proofs.Common.{ap}
use Rattle.i3c_json.specs.Objects.{put_unmet}
use Rattle.std.specs.Prelude.{None}
use Rattle.i3c_program.specs.Answers.{bare_object}
use Rattle.i3c_program.proofs.Written.{on_ok}
use Rattle.i3c_program.proofs.trial.Trial.push_broken_object.Goals as goal

pub returns-in-Broken : goal.returns-in-Broken
returns-in-Broken c =
    on_ok c.push_unmet_object.result (λ w. (_, (c.in-Broken.broken, c.in-Broken.is, ap (λ t. bare_object c.args.number (put_unmet c.in-Broken.broken.number t) None) c.as_bytes-there.ensures), w)) c.push_unmet_object.ensures
