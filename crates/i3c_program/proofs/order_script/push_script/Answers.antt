-- The texts one behind another.
use Rattle.std.proofs.Common.{◌∙◌, ◌++◌, ap, refl}
use Rattle.i3c_tracks.specs.Telling.{lines_text, runs_text}
use Rattle.i3c_program.specs.Scripts.{foot_of, head_of, woven}
use Rattle.i3c_program.proofs.Written.{on_ok, script_written}
use Rattle.i3c_program.proofs.order_script.push_script.Goals as goal

pub returns : goal.returns
returns c =
    let (front, in_front, put_front) = c.in_ok-push_front.ensures in
    let (tracks, rest, are, put_run) = c.in_ok-push_run.ensures in
    let lines = c.args.scenario.now.lines.items in
    let standing = c.args.standing.now in
    on_ok c.push_foot.result
    (λ w. (
      _,
      (front, tracks, rest, in_front, are, refl),
      script_written c.args.text.now c.push_head.new.text c.push_front.new.text c.push_run.new.text c.push_foot.new.text (head_of lines standing) (lines_text lines c.args.scenario.now.before.items) (runs_text lines front)
          (woven lines c.args.scenario.now.tracks.rules.risk tracks c.args.choices.now) (runs_text lines rest) (foot_of lines standing) (c.in_ok-push_head.ensures ∙ ap (λ l. c.args.text.now ++ head_of l standing) c.deref.ensures.value) put_front put_run
          (w ∙ ap (λ l. c.push_run.new.text ++ foot_of l standing) c.deref-2.ensures.value),
    )) c.push_foot.ensures
