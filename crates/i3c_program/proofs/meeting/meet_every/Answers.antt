-- A session begins with the scene, and its lines are served.
use Rattle.std.proofs.Common.{inr}
use Rattle.i3c_program.proofs.meeting.meet_every.Goals as goal

pub returns-in-Ok-answer_lines : goal.returns-in-Ok-answer_lines
returns-in-Ok-answer_lines g c = record {
  start = c.in-Ok-new.session;
  end = c.answer_lines.new.answerer;
  opens = record {
    file = c.in-Ok.lines.items;
    lines = c.in-Ok.ensures.lines;
    scenario = c.in-Ok-read_scenario.scenario;
    is = c.in-Ok-read_scenario.ensures;
    begun = c.in-Ok-new.ensures.begun;
    form_is = c.in-Ok-new.ensures.form;
    right = c.in-Ok-new.ensures.wrong;
  };
  served = c.in-Ok-answer_lines.ensures.served;
  ends = c.ending.ensures;
}

pub returns : goal.returns
returns g c = inr (
  c.in-Ok-new.session,
  record {
    file = c.in-Ok.lines.items;
    lines = c.in-Ok.ensures.lines;
    scenario = c.in-Ok-read_scenario.scenario;
    is = c.in-Ok-read_scenario.ensures;
    begun = c.in-Ok-new.ensures.begun;
    form_is = c.in-Ok-new.ensures.form;
    right = c.in-Ok-new.ensures.wrong;
  },
  c.in-Err-answer_lines.ensures.served,
)
