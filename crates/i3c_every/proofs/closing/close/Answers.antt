-- What is left leads on, or something of it breaks.
use Rattle.std.proofs.Common.{Contains, Err, List, Ok, refl, subst, sym}
use Rattle.std.specs.Global.{Vec}
use Rattle.i3c_explore.specs.declared.node.Node.{Node}
use Rattle.i3c_explore.specs.Reached.{AreReached}
use Rattle.i3c_every.specs.Closing.{AreDone, StopsThere}
use Rattle.i3c_every.specs.Meeting.{FailsAt}
use Rattle.i3c_every.proofs.Between.{fails_so, reached_so}
use Rattle.i3c_every.proofs.Closed.{closed_all, if_err, if_ok, stopped_so, stops_so}
use Rattle.i3c_every.proofs.closing.close.Goals as goal

pub returns-in-Err-clause-stopped : goal.returns-in-Err-clause-stopped
returns-in-Err-clause-stopped g c =
    let limits = c.args.tracks.now.limits in
    let fails = fails_so g.M.Machine.steps g.M.Machine.last g.M.Machine.breaks c.deref.result.now c.args.met.now limits c.in-Err.stop (Err c.in-Err.stop) refl c.in-Err.ensures in
    stopped_so g.M.Machine.steps c.args.tracks.now.lines.items c.args.rest.now g.M.Machine.last g.M.Machine.breaks limits c.args.met.now c.in-Err.stop
    (subst (λ (ts : List (Vec g.row.M-Line.Denot)). FailsAt g.M.Machine.steps g.M.Machine.last g.M.Machine.breaks ts limits c.args.met.now c.in-Err.stop) c.deref.ensures.value fails)

pub returns-clause-closed : goal.returns-clause-closed
returns-clause-closed g c =
    let lines = c.args.tracks.now.lines.items in
    let (start, begun, sized, reached) = reached_so g.M.Machine.steps g.M.Machine.last g.M.Machine.breaks c.deref.result.now c.args.met.now c.args.tracks.now.limits c.in-Ok.nodes (Ok c.in-Ok.nodes) refl c.in-Ok.ensures in
    let all = subst (λ (ts : List (Vec g.row.M-Line.Denot)). AreReached g.M.Machine.steps ts start c.in-Ok.nodes.items) c.deref.ensures.value reached in
    if_ok c.close_all.result (λ done closed. closed_all g.M.Machine.steps lines c.args.rest.now c.args.met.now start c.in-Ok.nodes.items begun all
    (λ node there done. closed node (subst (λ (ns : List (Node g.row.M.Denot)). Contains ns node) (sym c.deref-3.ensures.value) there) (subst (λ (ts : List (Vec g.row.M-Line.Denot)). AreDone ts node.places.items) (sym c.deref-2.ensures.value) done))) c.close_all.ensures.closed

pub returns-clause-stopped : goal.returns-clause-stopped
returns-clause-stopped g c =
    let lines = c.args.tracks.now.lines.items in
    let limits = c.args.tracks.now.limits in
    let (start, begun, sized, reached) = reached_so g.M.Machine.steps g.M.Machine.last g.M.Machine.breaks c.deref.result.now c.args.met.now limits c.in-Ok.nodes (Ok c.in-Ok.nodes) refl c.in-Ok.ensures in
    let all = subst (λ (ts : List (Vec g.row.M-Line.Denot)). AreReached g.M.Machine.steps ts start c.in-Ok.nodes.items) c.deref.ensures.value reached in
    if_err c.close_all.result (λ stop (node, there, why). stops_so g.M.Machine.steps lines c.args.rest.now g.M.Machine.last g.M.Machine.breaks limits c.args.met.now start node c.in-Ok.nodes.items stop begun all
    (subst (λ (ns : List (Node g.row.M.Denot)). Contains ns node) c.deref-3.ensures.value there) (subst (λ (ts : List (Vec g.row.M-Line.Denot)). StopsThere g.M.Machine.steps g.M.Machine.last g.M.Machine.breaks ts c.args.rest.now limits node stop) c.deref-2.ensures.value why)) c.close_all.ensures.stopped
