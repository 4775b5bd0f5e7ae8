use Rattle.std.proofs.Common.{subst, sym}
use Rattle.i3c_explore.specs.Twins.{AllTwins}
use Rattle.i3c_explore.proofs.Merging.{twins_more}
use Rattle.i3c_explore.proofs.twin_pair.twins_of.Goals as goal
use Rattle.i3c_explore.proofs.twin_pair.twins_of.Goals.{in-Some+in_ok-push, in_default}

pub loop-later-preserved : goal.loop-later-preserved
loop-later-preserved g c =
    let nodes = c.args.nodes.now in elim c.match-twin_before.branch [
      | in-Some+in_ok-push w ↦ subst (λ t. AllTwins nodes t.items) (sym w.twins-is)
          (twins_more nodes c.loop-later.twins.items w.push.new.self.items (record { before = w.in-Some.before; later = c.loop-later.later }) c.loop-later.invariant w.in-Some.ensures w.in_ok-push.ensures.items)
      | in_default w ↦ subst (λ t. AllTwins nodes t.items) (sym w.twins-is) c.loop-later.invariant
    ]
