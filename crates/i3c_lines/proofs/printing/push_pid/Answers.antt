use Rattle.std.proofs.lemmas.Result.{on_ok_weaker}
use Rattle.i3c_text.specs.Hex.{hex_text}
use Rattle.i3c_lines.proofs.PrintedLines.{behind_space}
use Rattle.i3c_lines.proofs.printing.push_pid.Goals as goal

pub returns : goal.returns
returns c = on_ok_weaker c.push_pid.result (behind_space _ c.push.new.self _ (hex_text 12 c.args.pid) c.in_ok-push.ensures.appended) c.push_pid.ensures
