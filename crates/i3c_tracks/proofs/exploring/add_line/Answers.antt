use Rattle.std.proofs.Common.{◌∙◌, ◌++◌, ap}
use Rattle.i3c_tracks.proofs.exploring.add_line.Goals as goal

pub returns : goal.returns
returns c = (c.extend_from_slice.new.self, c.in_ok-extend_from_slice.ensures.items ∙ ap (λ bytes. bytes ++ c.args.line.now) c.new-copy.ensures.items, c.in_ok-push.ensures.items)
