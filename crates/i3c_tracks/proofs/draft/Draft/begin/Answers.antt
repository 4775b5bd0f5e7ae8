use Rattle.std.proofs.Common.{ap}
use Rattle.i3c_tracks.proofs.draft.Draft.begin.Goals as goal

pub returns : goal.returns
returns c = (c.new-body.result, ap (λ b. record c.args.self.now { body = b }) c.replace.ensures.after, c.new-body.ensures.start, c.new-body.ensures.none)
