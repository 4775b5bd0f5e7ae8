use Rattle.std.proofs.Common.{rules}
use Rattle.i3c_explore.proofs.Owning.{owned_more}
use Rattle.i3c_explore.proofs.owners.push_owner.Goals as goal

pub returns : goal.returns
returns c = owned_more c.args.owners.now.items c.push.new.self.items _ c.args.jobs c.requires.owned (search rules) c.in_ok-push.ensures.items
