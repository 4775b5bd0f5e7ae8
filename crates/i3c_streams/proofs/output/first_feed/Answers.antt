use Rattle.memchr.specs.Find.{is_byte}
use Rattle.i3c_streams.proofs.Feeds.{is_first}
use Rattle.i3c_streams.proofs.output.first_feed.Goals as goal

pub returns : goal.returns
returns c = is_first (is_byte 10) c.args.bytes.now c.memchr_iter.result c.next.new.self c.next.result c.memchr_iter.ensures.value c.next.ensures.steps
