-- A command has its place behind the line that was held.
use Rattle.std.proofs.Common.{rules, ◌∙◌}
use Rattle.i3c_tracks.proofs.Reading.{command_here}
use Rattle.i3c_tracks.proofs.body.Body.add_command.Goals as goal

pub returns : goal.returns
returns c = record {
  start = c.take_place-risk.ensures.start ∙ c.in_ok-settle.ensures.start;
  blocks = search rules;
  opened = search rules;
  rules = search rules;
  risky = search rules;
  here = command_here c.args.self.now c.settle.new.self c.take_place-risk.new.self c.in_ok-settle.ensures c.take_place-risk.ensures.inside;
}
