use Rattle.i3c_lines.specs.Naming.{letters}
use Rattle.i3c_lines.proofs.SentLaws.{as_printed}
use Rattle.i3c_lines.proofs.printing.push_as.Goals as goal

pub returns : goal.returns
returns c =
    as_printed c.push_sent.result c.args.text.now c.push_named.new.text c.push.new.self c.push_sent.new.text (letters c.args.name.now) c.args.sent.now c.in_ok-push_named.ensures c.in_ok-push.ensures.appended c.push_sent.ensures
