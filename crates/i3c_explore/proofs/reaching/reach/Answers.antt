-- Layer by layer, all that is left is reached.
use Rattle.std.proofs.Common.{◌+◌}
use Rattle.i3c_explore.proofs.Behind.{so_far_first, so_far_next, so_far_over, so_far_stops}
use Rattle.i3c_explore.proofs.reaching.reach.Goals as goal

pub loop-init : goal.loop-init
loop-init g c = (0, so_far_first g.M.Machine.steps g.M.Machine.last c.args.tracks.now c.args.start c.args.limits _ _ _ c.new-found.ensures.items c.in_ok-layer.ensures.nodes c.in_ok-layer.ensures.limits c.requires)

pub next_of-requires : goal.next_of-requires
next_of-requires g c = let (count, was) = c.loop.invariant in was.sized

pub returns-in-Err : goal.returns-in-Err
returns-in-Err g c =
    let (count, was) = c.loop.invariant in
    so_far_stops g.M.Machine.steps g.M.Machine.last c.args.tracks.now c.args.start c.args.limits g.M.Machine.breaks count _ _ _ c.in-Err.stop was c.in-Err.ensures

pub returns-then-is_empty : goal.returns-then-is_empty
returns-then-is_empty g c =
    let (count, was) = c.loop.invariant in
    let on = so_far_next g.M.Machine.steps g.M.Machine.last c.args.tracks.now c.args.start c.args.limits g.M.Machine.breaks count _ _ c.append.new.self.items _ c.in-Ok.next was c.in-Ok.ensures c.in_ok-append.ensures.items in
    so_far_over g.M.Machine.steps g.M.Machine.last c.args.tracks.now c.args.start c.args.limits (count + 1) _ _ _ on (c.is_empty.ensures.0 c.if-is_empty.true)

pub loop-preserved : goal.loop-preserved
loop-preserved g c =
    let (count, was) = c.loop.invariant in
    (count + 1, so_far_next g.M.Machine.steps g.M.Machine.last c.args.tracks.now c.args.start c.args.limits g.M.Machine.breaks count _ _ c.append.new.self.items _ c.in-Ok.next was c.in-Ok.ensures c.in_ok-append.ensures.items)
