use borrow.Author.Count.{below_more}
use Rattle.std.proofs.Common.{◌≡◌, ◌<◌, ◌≤◌, ◌∙◌, ◌+◌, ℕ, ap, arith, inl, inr, length, refl, subst, sym}
use Rattle.std.proofs.lemmas.Option.{slice_get_read}
use Rattle.i3c_explore.specs.declared.limits.Limits.{Limits}
use Rattle.i3c_explore.specs.Explorations.{MakesBy}
use Rattle.i3c_explore.specs.Nexts.{IsNextOf}
use Rattle.i3c_explore.specs.Notes.{IsNotedBehind, IsQuietBehind, Marks}
use Rattle.i3c_explore.specs.Owners.{own}
use Rattle.i3c_explore.specs.Parts.{opening}
use Rattle.i3c_explore.specs.Runs.{IsWithin, runs_from, runs_of}
use Rattle.i3c_explore.proofs.Expanding.{like_successor, passed_here, passed_kept}
use Rattle.i3c_explore.proofs.Marking.{nodes_next, nodes_none}
use Rattle.i3c_explore.proofs.Nexts.{next_none}
use Rattle.i3c_explore.proofs.Running.{node_more, nodes_up, within_more}
use Rattle.i3c_explore.proofs.Shares.{shares_more}
use Rattle.i3c_explore.proofs.Stopping.{memory_ends, stops_behind}
use Rattle.i3c_explore.proofs.expand.expand_turns.Goals as goal

at_end : (a b : ℕ) → a ≤ b → b ≤ a → a ≡ b
at_end a b ab ba = omega arith

pub loop-index-init : goal.loop-index-init
loop-index-init g c =
    let tracks = c.args.tracks.now in let lines = opening c.args.part tracks in
    let none = ap length (c.in_ok-make_room.ensures.nodes ∙ c.new-next.ensures.nodes) in let limits = c.in_ok-make_room.ensures.limits ∙ c.new-next.ensures.limits in record {
      follows = next_none g.M.Machine.steps tracks lines (own c.args.owners.now (length tracks) c.args.job lines) c.args.layer.now 0 c.make_room.new.self.nodes.items none;
      within = record { steps = let e = ap (λ (l : Limits). l.steps) limits in omega arith; states = ap (λ (l : Limits). l.states) limits; narrow = omega arith };
      noted = nodes_none g.M.Machine.notes g.M.Machine.quiet (own c.args.owners.now (length tracks) c.args.job lines) c.args.layer.now c.args.noted.items;
      few = omega arith;
    }

pub loop-index-preserved : goal.loop-index-preserved
loop-index-preserved g c =
    let done = c.in-Ok.ensures in let was = c.loop-index.invariant.follows in
    let steps = g.M.Machine.steps in let tracks = c.args.tracks.now in let lines = opening c.args.part tracks in let count = length tracks in let ran = own c.args.owners.now count c.args.job lines in let layer = c.args.layer.now in let index = c.loop-index.index in
    let old = c.loop-index.next.nodes.items in let new = c.expand.new.next.nodes.items in let node = c.index-layer-index.result in
    let lt : index < length layer = c.loop-index-test.true in
    let more = node_more g.M.Machine.last ran count layer index node (slice_get_read layer (length layer) index node refl lt c.index-layer-index.is) in record {
      follows = record {
        expanded = below_more _ _ (passed_kept steps ran count layer 0 index old new done.grown.keeps was.expanded) (λ le. passed_here steps (ran index) count layer index node new c.index-layer-index.is done.expanded);
        from = λ n is. elim (done.grown.from n is) [
          | inl (m, before, like) ↦ (let (o, at, made) = was.from m before in (o, at, like_successor steps lines o n m like made))
          | inr made ↦ (node, (index, lt, sym c.index-layer-index.is), made)
        ];
        counted = shares_more steps tracks ran count layer 0 index node old new (omega arith) lt c.index-layer-index.is was.counted done.grown.counted;
      };
      within = subst (λ (k : ℕ). IsWithin c.args.limits c.expand.new.next k) (sym more) (within_more c.args.limits c.loop-index.next c.expand.new.next _ _ c.loop-index.invariant.within done.grown.charged);
      noted = nodes_next g.M.Machine.notes g.M.Machine.quiet ran layer index node c.args.noted.items c.loop-index.next.noted.items c.expand.new.next.noted.items (slice_get_read layer (length layer) index node refl lt c.index-layer-index.is) c.loop-index.invariant.noted done.noted;
      few = let a = c.loop-index.invariant.few in let b = done.grown.few in omega arith;
    }

pub returns-in-Err-clause-made : goal.returns-in-Err-clause-made
returns-in-Err-clause-made g c =
    let was = c.loop-index.invariant in let index = c.loop-index.index in let last = g.M.Machine.last in
    let tracks = c.args.tracks.now in let lines = opening c.args.part tracks in let count = length tracks in let ran = own c.args.owners.now count c.args.job lines in let layer = c.args.layer.now in let node = c.index-layer-index.result in
    let lt : index < length layer = c.loop-index-test.true in
    let more = node_more last ran count layer index node (slice_get_read layer (length layer) index node refl lt c.index-layer-index.is) in
    let up = nodes_up last ran count layer (index + 1) (length layer) (omega arith) in
    stops_behind g.M.Machine.breaks tracks c.args.part layer c.args.limits node c.loop-index.next (runs_from last ran count layer index) (runs_of last (ran index) node count) (runs_from last ran count layer (length layer)) c.in-Err.stop
    (index, lt, sym c.index-layer-index.is) was.within was.few (omega arith) c.in-Err.ensures.stopped

pub returns-clause-made : goal.returns-clause-made
returns-clause-made g c =
    let tracks = c.args.tracks.now in let lines = opening c.args.part tracks in let ran = own c.args.owners.now (length tracks) c.args.job lines in let layer = c.args.layer.now in let next = c.loop-index.next in
    let all = at_end c.loop-index.index (length layer) c.loop-index.auto.index-end c.loop-index-test.false in record {
      follows = subst (λ (k : ℕ). IsNextOf g.M.Machine.steps tracks lines ran layer 0 k next.nodes.items) all c.loop-index.invariant.follows;
      within = subst (λ (k : ℕ). IsWithin c.args.limits next (runs_from g.M.Machine.last ran (length tracks) layer k)) all c.loop-index.invariant.within;
      few = subst (λ (k : ℕ). length next.nodes.items ≤ runs_from g.M.Machine.last ran (length tracks) layer k) all c.loop-index.invariant.few;
    }

pub expand-requires : goal.expand-requires
expand-requires g c = record { sized = c.requires c.index-layer-index.result (c.loop-index.index, c.loop-index-test.true, sym c.index-layer-index.is) }

pub returns-clause-noted : goal.returns-clause-noted
returns-clause-noted g c =
    let tracks = c.args.tracks.now in let ran = own c.args.owners.now (length tracks) c.args.job (opening c.args.part tracks) in let layer = c.args.layer.now in
    let all = at_end c.loop-index.index (length layer) c.loop-index.auto.index-end c.loop-index-test.false in
    subst (λ (k : ℕ). Marks (IsNotedBehind g.M.Machine.notes ran layer k) (IsQuietBehind g.M.Machine.quiet ran layer k) c.args.noted.items c.loop-index.next.noted.items) all c.loop-index.invariant.noted

pub returns-in_err-make_room-clause-made : goal.returns-in_err-make_room-clause-made
returns-in_err-make_room-clause-made g c =
    let tracks = c.args.tracks.now in
    memory_ends (MakesBy g.M.Machine.steps g.M.Machine.last g.M.Machine.breaks tracks c.args.part (own c.args.owners.now (length tracks) c.args.job (opening c.args.part tracks)) c.args.layer.now c.args.limits) c.from_residual.result tt c.from_residual.ensures.1

pub returns-in_err-next-clause-made : goal.returns-in_err-next-clause-made
returns-in_err-next-clause-made g c =
    let tracks = c.args.tracks.now in
    memory_ends (MakesBy g.M.Machine.steps g.M.Machine.last g.M.Machine.breaks tracks c.args.part (own c.args.owners.now (length tracks) c.args.job (opening c.args.part tracks)) c.args.layer.now c.args.limits) c.from_residual-in_err-next.result tt c.from_residual-in_err-next.ensures.1
