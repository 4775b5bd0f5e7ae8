use Rattle.std.proofs.Common.{◌≡◌, ◌∙◌, ◌<◌, ◌≤◌, ◌⊎◌, ◌++◌, ◌∷◌, [], ℕ, Bool, Err, List, Ok, ap, arith, get_or, length, refl, subst, sym}
use Rattle.std.specs.Global.{Vec}
use Rattle.std.proofs.lemmas.Option.{slice_get_read}
use Rattle.i3c_explore.specs.declared.node.Node.{Node}
use Rattle.i3c_explore.specs.Blocks.{block, tracks_in}
use Rattle.i3c_explore.specs.Counts.{IsShared}
use Rattle.i3c_explore.specs.Explorations.{Explores, ExploresBlock}
use Rattle.i3c_explore.specs.Notes.{BlockIsNoted}
use Rattle.i3c_explore.specs.Numbers.{IsNumber}
use Rattle.i3c_explore.specs.Parts.{HasLine, Part, block_part, fork, whole}
use Rattle.i3c_explore.specs.Shares.{all_below}
use Rattle.i3c_explore.proofs.Noting.{told_first}
use Rattle.i3c_explore.proofs.Parting.{block_ready}
use Rattle.i3c_explore.proofs.Stopping.{memory_ends}
use Rattle.i3c_explore.proofs.Walking.{walked_all, walked_first, walked_next, walked_none, walked_stops, walked_told}
use Rattle.i3c_explore.proofs.walk.explore_by.Goals as goal

at_end : (a b : ℕ) → a ≤ b → b ≤ a → a ≡ b
at_end a b ab ba = omega arith

-- the block that is read is the one of this number
block_read : {L : Type 0} (blocks : List (Vec (Vec L))) (index : ℕ) (item : Vec (Vec L)) (tracks : List (Vec L)) → index < length blocks → item ≡ get_or blocks index item → tracks ≡ item.items → tracks ≡ block blocks index
block_read blocks index item tracks lt is same = same ∙ sym (ap tracks_in (slice_get_read blocks (length blocks) index item refl lt is))

-- the part of a block, by the number that was found
part_read : (part : Part) (split found index : ℕ) (chosen : Part) → found ≡ split → chosen ≡ block_part part found index → chosen ≡ block_part part split index
part_read part split found index chosen same is = is ∙ ap (λ (k : ℕ). block_part part k index) same

pub returns-then-not-has_orders : goal.returns-then-not-has_orders
returns-then-not-has_orders g c =
    let none = c.in_ok-none.ensures in
    walked_none g.M.Machine.steps g.M.Machine.last g.M.Machine.breaks g.M.Machine.notes g.M.Machine.quiet c.args.part c.args.blocks.now c.args.start c.args.limits c.in_ok-none.none
    (λ has. let some = c.has_orders.ensures.1 (λ e. has (sym c.fork-split.ensures ∙ e)) in cc) none.ends none.orders none.steps none.sized none.shape none.unmarked

pub loop-index-init : goal.loop-index-init
loop-index-init g c =
    record {
      walked = walked_first g.M.Machine.steps g.M.Machine.last c.args.part c.args.blocks.now c.args.start c.args.limits c.in_ok-layer.layer c.in_ok-layer.ensures.alone c.in_ok-layer.ensures.limits (omega arith);
      told = told_first g.M.Machine.steps g.M.Machine.notes g.M.Machine.quiet c.args.part c.args.blocks.now c.args.start c.new-noted.result.items c.new-noted.ensures.items;
    }

pub explore_block-requires : goal.explore_block-requires
explore_block-requires g c =
    let blocks = c.args.blocks.now in let count = c.loop-index.index in let tracks = c.deref.result.now in
    let here : tracks ≡ block blocks count = block_read blocks count c.index-blocks-index.result tracks c.loop-index-test.true c.index-blocks-index.is c.deref.ensures.value in
    let chosen = part_read c.args.part (fork blocks) c.fork-split.result count c.only_if-opening.result c.fork-split.ensures c.only_if-opening.ensures in
    record {
      accepts = c.requires.accepts;
      makes = c.requires.makes;
      marks = c.requires.marks;
      narrow = let was = c.loop-index.invariant.walked.run in let states = was.states in let fits = was.narrow in omega arith;
      begins = subst (λ (p : Part). (p ≡ whole) ⊎ HasLine tracks) (sym chosen) (block_ready c.args.part blocks count tracks here c.loop-index-test.true);
    }

pub returns-in-Err : goal.returns-in-Err
returns-in-Err g c =
    let steps = g.M.Machine.steps in let last = g.M.Machine.last in let breaks = g.M.Machine.breaks in let part = c.args.part in let blocks = c.args.blocks.now in let count = c.loop-index.index in let tracks = c.deref.result.now in let layer = c.loop-index.layer in
    let here : tracks ≡ block blocks count = block_read blocks count c.index-blocks-index.result tracks c.loop-index-test.true c.index-blocks-index.is c.deref.ensures.value in
    let chosen = part_read part (fork blocks) c.fork-split.result count c.only_if-opening.result c.fork-split.ensures c.only_if-opening.ensures in
    let stops = subst (λ (p : Part). ExploresBlock steps last breaks p (block blocks count) layer (Err c.in-Err.stop)) chosen
    (subst (λ (t : List (Vec g.row.M-Line.Denot)). ExploresBlock steps last breaks c.only_if-opening.result t layer (Err c.in-Err.stop)) here c.in-Err.ensures.explored) in
    walked_stops steps last breaks g.M.Machine.notes g.M.Machine.quiet part blocks c.args.start c.args.limits count layer c.in-Err.stop (λ none. c.has_orders.ensures.0 c.if-not-has_orders.false (c.fork-split.ensures ∙ none)) c.loop-index-test.true c.loop-index.invariant.walked stops

pub loop-index-preserved : goal.loop-index-preserved
loop-index-preserved g c =
    let steps = g.M.Machine.steps in let last = g.M.Machine.last in let breaks = g.M.Machine.breaks in let part = c.args.part in let blocks = c.args.blocks.now in let count = c.loop-index.index in let tracks = c.deref.result.now in let layer = c.loop-index.layer in
    let here : tracks ≡ block blocks count = block_read blocks count c.index-blocks-index.result tracks c.loop-index-test.true c.index-blocks-index.is c.deref.ensures.value in
    let chosen = part_read part (fork blocks) c.fork-split.result count c.only_if-opening.result c.fork-split.ensures c.only_if-opening.ensures in
    let done = subst (λ (p : Part). ExploresBlock steps last breaks p (block blocks count) layer (Ok c.in-Ok.layer)) chosen
    (subst (λ (t : List (Vec g.row.M-Line.Denot)). ExploresBlock steps last breaks c.only_if-opening.result t layer (Ok c.in-Ok.layer)) here c.in-Ok.ensures.explored) in
    let marked = subst (λ (p : Part). BlockIsNoted steps g.M.Machine.notes g.M.Machine.quiet p (block blocks count) layer.nodes.items c.in-Ok.layer.noted.items) chosen
    (subst (λ (t : List (Vec g.row.M-Line.Denot)). BlockIsNoted steps g.M.Machine.notes g.M.Machine.quiet c.only_if-opening.result t layer.nodes.items c.in-Ok.layer.noted.items) here c.in-Ok.ensures.noted) in record {
      walked = walked_next steps last part blocks c.args.start c.args.limits count layer c.in-Ok.layer c.loop-index-test.true c.loop-index.invariant.walked done;
      told = walked_told steps last g.M.Machine.notes g.M.Machine.quiet part blocks c.args.start c.args.limits count layer c.in-Ok.layer.noted c.loop-index.noted.items c.push_marks.new.noted.items c.loop-index-test.true c.loop-index.invariant.walked marked
          (c.in_ok-push_marks.ensures ∙ ap (λ (v : Vec (Vec Bool)). c.loop-index.noted.items ++ v ∷ []) c.replace.ensures.value) c.loop-index.invariant.told;
    }

pub returns : goal.returns
returns g c =
    let blocks = c.args.blocks.now in let layer = c.loop-index.layer in
    let all = at_end c.loop-index.index (length blocks) c.loop-index.auto.index-end c.loop-index-test.false in
    walked_all g.M.Machine.steps g.M.Machine.last g.M.Machine.breaks g.M.Machine.notes g.M.Machine.quiet c.args.part blocks c.args.start c.args.limits c.loop-index.index layer.limits
    (record { ends = layer.nodes; orders = c.total-orders.result; steps = c.saturating_sub-steps.result; noted = c.loop-index.noted })
    (λ none. c.has_orders.ensures.0 c.if-not-has_orders.false (c.fork-split.ensures ∙ none)) all c.loop-index.invariant.walked
    (subst (λ (l : List (Node g.row.M.Denot)). (share : ℕ → List (List (List ℕ))) → IsShared l share → IsNumber c.total-orders.result (length (all_below share (length l)))) c.deref-2.ensures.value c.total-orders.ensures)
    c.saturating_sub-steps.ensures c.loop-index.invariant.told

pub returns-in_err-layer : goal.returns-in_err-layer
returns-in_err-layer g c =
    memory_ends (Explores g.M.Machine.steps g.M.Machine.last g.M.Machine.breaks g.M.Machine.notes g.M.Machine.quiet c.args.part c.args.blocks.now c.args.start c.args.limits) c.from_residual-in_err-layer.result tt c.from_residual-in_err-layer.ensures.1

pub returns-in_err-runner : goal.returns-in_err-runner
returns-in_err-runner g c =
    memory_ends (Explores g.M.Machine.steps g.M.Machine.last g.M.Machine.breaks g.M.Machine.notes g.M.Machine.quiet c.args.part c.args.blocks.now c.args.start c.args.limits) c.from_residual-in_err-runner.result tt c.from_residual-in_err-runner.ensures.1
