use Rattle.std.proofs.Common.{◌∙◌, ◌+◌, Err, Ok, ap, refl, subst, sym}
use Rattle.std.specs.Global.{Vec}
use Rattle.std.specs.List.{Contains}
use Rattle.i3c_explore.specs.declared.limits.Limits.{Limits}
use Rattle.i3c_explore.specs.declared.node.Node.{Node}
use Rattle.i3c_explore.specs.Explorations.{ExploresBlock}
use Rattle.i3c_explore.specs.Parts.{part_at}
use Rattle.i3c_explore.proofs.Making.{makes_as}
use Rattle.i3c_explore.proofs.Marking.{marks_of}
use Rattle.i3c_explore.proofs.Noting.{noted_end, noted_first, noted_on}
use Rattle.i3c_explore.proofs.Stopping.{memory_ends}
use Rattle.i3c_explore.proofs.Underway.{IsUnderway, underway_first, underway_next, underway_over, underway_stops}
use Rattle.i3c_explore.proofs.block.explore_block.Goals as goal

pub loop-ran-init : goal.loop-ran-init
loop-ran-init g c =
    let steps = g.M.Machine.steps in let last = g.M.Machine.last in let tracks = c.args.tracks.now in let layer = c.in_ok-layer.layer in let made = c.in_ok-layer.ensures in
    record {
      underway = subst (λ (left : Limits). IsUnderway steps last c.args.part tracks c.args.starts 0 layer.nodes.items left) (sym made.limits)
          (underway_first steps last c.args.part tracks c.args.starts layer.nodes.items made.restarted made.length c.requires.narrow);
      noted = noted_first steps g.M.Machine.notes g.M.Machine.quiet c.args.part tracks c.args.starts.nodes.items layer.noted.items made.shape made.unmarked;
    }

pub next_layer-requires : goal.next_layer-requires
next_layer-requires g c =
    c.requires.accepts _ _ _ _ _ _ (λ n at. (c.loop-ran.invariant.underway.reached n (subst (λ l. Contains l n) (c.deref.ensures.value ∙ ap (λ (v : Vec (Node g.row.M.Denot)). v.items) c.handed_on-handed.ensures.nodes) at)).2.0.sized)

pub returns-in-Err-clause-explored : goal.returns-in-Err-clause-explored
returns-in-Err-clause-explored g c =
    let steps = g.M.Machine.steps in let last = g.M.Machine.last in let breaks = g.M.Machine.breaks in let part = c.args.part in let tracks = c.args.tracks.now in let layer = c.loop-ran.layer in let count = c.loop-ran.ran in
    underway_stops steps last breaks part tracks c.args.starts count layer.nodes.items layer.limits c.in-Err.stop c.loop-ran.invariant.underway
    (makes_as steps last breaks tracks c.only_if-opening.result (part_at part count) c.deref.result.now layer.nodes.items c.handed_on-handed.new.layer.limits layer.limits (Err c.in-Err.stop) c.only_if-opening.ensures
    (c.deref.ensures.value ∙ ap (λ (v : Vec (Node g.row.M.Denot)). v.items) c.handed_on-handed.ensures.nodes) c.handed_on-handed.ensures.limits (c.requires.makes _ _ _ _ _ _ _ _ c.in-Err.ensures))

pub returns-then-is_over-clause-explored : goal.returns-then-is_over-clause-explored
returns-then-is_over-clause-explored g c =
    let steps = g.M.Machine.steps in let last = g.M.Machine.last in let breaks = g.M.Machine.breaks in let part = c.args.part in let tracks = c.args.tracks.now in let layer = c.loop-ran.layer in let count = c.loop-ran.ran in
    let kept = c.handed_on-handed.new.layer in let next = c.in-Ok.next in
    let was = subst (λ (v : Vec (Node g.row.M.Denot)). IsUnderway steps last part tracks c.args.starts count v.items layer.limits) (sym c.handed_on-handed.ensures.nodes) c.loop-ran.invariant.underway in
    let made = makes_as steps last breaks tracks c.only_if-opening.result (part_at part count) c.deref.result.now kept.nodes.items kept.limits layer.limits (Ok next) c.only_if-opening.ensures
    c.deref.ensures.value c.handed_on-handed.ensures.limits (c.requires.makes _ _ _ _ _ _ _ _ c.in-Ok.ensures) in
    let (empty, ended) = c.is_over.ensures.0 c.if-is_over.true in
    underway_over steps last part tracks c.args.starts (record kept { limits = next.limits; spares = next.spares; noted = next.noted }) count layer.limits next was made empty ended refl

pub loop-ran-preserved : goal.loop-ran-preserved
loop-ran-preserved g c =
    let steps = g.M.Machine.steps in let last = g.M.Machine.last in let breaks = g.M.Machine.breaks in let part = c.args.part in let tracks = c.args.tracks.now in let layer = c.loop-ran.layer in let count = c.loop-ran.ran in
    let next = c.in-Ok.next in let new = c.behind-layer.result in
    let made = makes_as steps last breaks tracks c.only_if-opening.result (part_at part count) c.deref.result.now layer.nodes.items c.handed_on-handed.new.layer.limits layer.limits (Ok next) c.only_if-opening.ensures
    (c.deref.ensures.value ∙ ap (λ (v : Vec (Node g.row.M.Denot)). v.items) c.handed_on-handed.ensures.nodes) c.handed_on-handed.ensures.limits (c.requires.makes _ _ _ _ _ _ _ _ c.in-Ok.ensures) in
    let marks = marks_of g.M.Machine.notes g.M.Machine.quiet tracks c.only_if-opening.result (part_at part count) c.deref.result.now layer.nodes.items c.handed_on-handed.result.noted.items next.noted.items c.only_if-opening.ensures
    (c.deref.ensures.value ∙ ap (λ (v : Vec (Node g.row.M.Denot)). v.items) c.handed_on-handed.ensures.nodes) (c.requires.marks _ _ _ _ _ _ _ _ c.in-Ok.ensures) in
    record {
      underway = subst (λ (left : Limits). IsUnderway steps last part tracks c.args.starts (count + 1) new.nodes.items left) (sym c.behind-layer.ensures.limits)
          (subst (λ (v : Vec (Node g.row.M.Denot)). IsUnderway steps last part tracks c.args.starts (count + 1) v.items next.limits) (sym c.behind-layer.ensures.nodes)
          (underway_next steps last part tracks c.args.starts count layer.nodes.items layer.limits next c.loop-ran.invariant.underway made c.requires.begins (λ over. let is = c.is_over.ensures.1 over in cc)));
      noted = noted_on steps last g.M.Machine.notes g.M.Machine.quiet part tracks c.args.starts count layer.nodes.items layer.limits layer.noted c.handed_on-handed.result.noted next.noted new.noted c.loop-ran.invariant.underway
          c.handed_on-handed.ensures.noted c.behind-layer.ensures.noted marks c.loop-ran.invariant.noted;
    }

pub returns-in_err-layer-clause-explored : goal.returns-in_err-layer-clause-explored
returns-in_err-layer-clause-explored g c = memory_ends (ExploresBlock g.M.Machine.steps g.M.Machine.last g.M.Machine.breaks c.args.part c.args.tracks.now c.args.starts) c.from_residual.result tt c.from_residual.ensures.1

pub returns-then-is_over-clause-noted : goal.returns-then-is_over-clause-noted
returns-then-is_over-clause-noted g c =
    let steps = g.M.Machine.steps in let last = g.M.Machine.last in let breaks = g.M.Machine.breaks in let part = c.args.part in let tracks = c.args.tracks.now in let layer = c.loop-ran.layer in let count = c.loop-ran.ran in
    let next = c.in-Ok.next in
    let made = makes_as steps last breaks tracks c.only_if-opening.result (part_at part count) c.deref.result.now layer.nodes.items c.handed_on-handed.new.layer.limits layer.limits (Ok next) c.only_if-opening.ensures
    (c.deref.ensures.value ∙ ap (λ (v : Vec (Node g.row.M.Denot)). v.items) c.handed_on-handed.ensures.nodes) c.handed_on-handed.ensures.limits (c.requires.makes _ _ _ _ _ _ _ _ c.in-Ok.ensures) in
    let marks = marks_of g.M.Machine.notes g.M.Machine.quiet tracks c.only_if-opening.result (part_at part count) c.deref.result.now layer.nodes.items c.handed_on-handed.result.noted.items next.noted.items c.only_if-opening.ensures
    (c.deref.ensures.value ∙ ap (λ (v : Vec (Node g.row.M.Denot)). v.items) c.handed_on-handed.ensures.nodes) (c.requires.marks _ _ _ _ _ _ _ _ c.in-Ok.ensures) in
    let (empty, _) = c.is_over.ensures.0 c.if-is_over.true in
    noted_end steps last g.M.Machine.notes g.M.Machine.quiet part tracks c.args.starts count layer.nodes.items layer.limits next layer.noted c.handed_on-handed.result.noted c.loop-ran.invariant.underway made empty c.handed_on-handed.ensures.noted marks c.loop-ran.invariant.noted
