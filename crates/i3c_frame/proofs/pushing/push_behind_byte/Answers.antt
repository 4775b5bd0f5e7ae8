use Rattle.i3c_frame.proofs.PushLaws.{letters_behind}
use Rattle.i3c_frame.proofs.pushing.push_behind_byte.Goals as goal

pub returns : goal.returns
returns c = letters_behind c.push.result c.args.text.now c.push_byte.new.self c.push.new.self c.args.byte c.as_bytes.result.now c.args.letters.now c.ranges.byte.fits c.as_bytes.ensures.value c.in_ok-push_byte.ensures c.push.ensures.appended
