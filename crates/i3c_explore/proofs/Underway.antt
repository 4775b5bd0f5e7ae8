-- A block that is run layer by layer.
use Rattle.std.proofs.Common.{◌≡◌, ◌⊎◌, ◌<◌, ◌≤◌, ◌+◌, ℕ, suc, List, arith, length, subst}
use Rattle.std.specs.Global.{Vec}
use Rattle.i3c_explore.specs.declared.layer.Layer.{Layer}
use Rattle.i3c_explore.specs.declared.limits.Limits.{Limits}
use Rattle.i3c_explore.specs.declared.node.Node.{Node}
use Rattle.i3c_explore.specs.declared.stop.Stop.{Stop}
use Rattle.i3c_explore.specs.declared.stop.Stop.TheVariants.{Breaks, Memory, Most}
use Rattle.i3c_explore.specs.Counts.{IsShared}
use Rattle.i3c_explore.specs.Explorations.{BlockLeadsTo, IsMadeBy}
use Rattle.i3c_explore.specs.Layers.{AreRestarted}
use Rattle.i3c_explore.specs.Parts.{HasLine, Part, opening, part_at, whole}
use Rattle.i3c_explore.specs.Runs.{runs_behind}
use Rattle.i3c_explore.specs.Stops.{StopsBehind, StopsIn}
use Rattle.i3c_explore.proofs.Blocks.{AreHeld, AreReached, AreSome, LeadOn, ends_held, ends_reached, first_break, held_first, held_next, lead_on_first, lead_on_next, no_more, reached_first, reached_next, some_first, some_next}
use Rattle.i3c_explore.proofs.Ends.{IsCounted, counted_first, counted_next, ends_shared}
use Rattle.i3c_explore.proofs.Expanding.{all_passed}
use Rattle.i3c_explore.proofs.Layering.{AreSoFar, far_exceeds, far_first, far_next, far_over}
use Rattle.i3c_explore.proofs.Lists.{get_below}
use Rattle.i3c_explore.proofs.Shares.{shares_all}

-- each order of a part with `count` lines of a block leads to a node of the layer, and each node is reached by one, within the limits
pub record IsUnderway {S L : Type 0} (steps : S → L → ℕ → S → Type 0) (last : S → L → ℕ) (part : Part) (tracks : List (Vec L)) (starts : Layer S) (count : ℕ) (layer : List (Node S)) (left : Limits) : Type 0 where
  pub lead_on : LeadOn steps part tracks starts.nodes.items count
  pub held : AreHeld steps part tracks starts.nodes.items count layer
  pub reached : AreReached steps part tracks starts.nodes.items count layer
  pub counted : (past : ℕ → List (List (List ℕ))) → IsShared starts.nodes.items past → IsCounted steps part tracks starts.nodes.items past count layer
  pub layers : AreSoFar steps last part tracks starts.limits starts.nodes.items count layer left
  pub some : AreSome part tracks starts.nodes.items layer

pub underway_first : {S L : Type 0} (steps : S → L → ℕ → S → Type 0) (last : S → L → ℕ) (part : Part) (tracks : List (Vec L)) (starts : Layer S) (layer : List (Node S))
    → AreRestarted (length tracks) starts.nodes.items layer → length layer ≡ length starts.nodes.items → length starts.nodes.items ≤ starts.limits.states → IsUnderway steps last part tracks starts 0 layer starts.limits
underway_first steps last part tracks starts layer restarted same narrow =
    let nodes = starts.nodes.items in record {
      lead_on = lead_on_first steps part tracks nodes;
      held = held_first steps part tracks nodes layer (λ k lt. get_below layer k (omega arith)) restarted;
      reached = reached_first steps part tracks nodes layer restarted;
      counted = counted_first steps part tracks nodes layer restarted same;
      layers = far_first steps last part tracks starts.limits nodes layer restarted same narrow;
      some = some_first part tracks nodes layer same;
    }

-- the next layer holds each order that is one line longer
pub held_by : {S L : Type 0} (steps : S → L → ℕ → S → Type 0) (last : S → L → ℕ) (part : Part) (tracks : List (Vec L)) (starts : Layer S) (count : ℕ) (layer : List (Node S)) (left : Limits) (next : Layer S)
    → IsUnderway steps last part tracks starts count layer left → IsMadeBy steps last tracks (part_at part count) (λ _. opening (part_at part count) tracks) layer left next → AreHeld steps part tracks starts.nodes.items (suc count) next.nodes.items
held_by steps last part tracks starts count layer left next was made =
    held_next steps part tracks starts.nodes.items layer next.nodes.items count was.reached
    (all_passed steps (opening (part_at part count) tracks) (length tracks) layer next.nodes.items made.follows.expanded) was.held

-- one more layer, which doesn't end the block
pub underway_next : {S L : Type 0} (steps : S → L → ℕ → S → Type 0) (last : S → L → ℕ) (part : Part) (tracks : List (Vec L)) (starts : Layer S) (count : ℕ) (layer : List (Node S)) (left : Limits) (next : Layer S)
    → IsUnderway steps last part tracks starts count layer left → IsMadeBy steps last tracks (part_at part count) (λ _. opening (part_at part count) tracks) layer left next
    → (part ≡ whole) ⊎ HasLine tracks → ((length next.nodes.items ≡ 0) × ((0 < count) ⊎ (part ≡ whole)) → ⊥) → IsUnderway steps last part tracks starts (count + 1) next.nodes.items next.limits
underway_next {S} {L} steps last part tracks starts count layer left next was made begins goes_on =
    let nodes = starts.nodes.items in let lines = opening (part_at part count) tracks in
    let held = held_by steps last part tracks starts count layer left next was made in
    let same : suc count ≡ count + 1 = omega arith in record {
      lead_on = subst (λ (k : ℕ). LeadOn steps part tracks nodes k) same (lead_on_next steps part tracks nodes next.nodes.items count was.lead_on held);
      held = subst (λ (k : ℕ). AreHeld steps part tracks nodes k next.nodes.items) same held;
      reached = subst (λ (k : ℕ). AreReached steps part tracks nodes k next.nodes.items) same (reached_next steps part tracks nodes layer next.nodes.items count was.reached made.follows.from);
      counted = λ past shared.
          let before = was.counted past shared in
          let shares = shares_all steps tracks lines (length tracks) layer next.nodes.items made.follows.counted nodes past before.share before.shared before.meant in
          subst (λ (k : ℕ). IsCounted steps part tracks nodes past k next.nodes.items) same (counted_next steps part tracks nodes past count layer next.nodes.items before shares);
      layers = far_next steps last part tracks starts.limits nodes layer count left next was.layers made;
      some = some_next steps part tracks nodes next.nodes.items count held begins goes_on;
    }

-- nothing follows the ends
pub underway_over : {S L : Type 0} (steps : S → L → ℕ → S → Type 0) (last : S → L → ℕ) (part : Part) (tracks : List (Vec L)) (starts found : Layer S) (count : ℕ) (left : Limits) (next : Layer S)
    → IsUnderway steps last part tracks starts count found.nodes.items left → IsMadeBy steps last tracks (part_at part count) (λ _. opening (part_at part count) tracks) found.nodes.items left next
    → length next.nodes.items ≡ 0 → (0 < count) ⊎ (part ≡ whole) → found.limits ≡ next.limits → BlockLeadsTo steps last part tracks starts found
underway_over {S} {L} steps last part tracks starts found count left next was made empty ended limits =
    let nodes = starts.nodes.items in let ends = found.nodes.items in
    let held = held_by steps last part tracks starts count ends left next was made in
    let (run, states) = far_over steps last part tracks starts.limits nodes ends count left next found.limits limits was.layers made empty in record {
      all = λ s at order prefix fits. was.lead_on s at order (no_more steps part tracks nodes next.nodes.items count s at held empty order prefix fits) prefix fits;
      ends = ends_held steps part tracks nodes ends next.nodes.items count was.reached was.held held empty was.some;
      reached = ends_reached steps part tracks nodes ends next.nodes.items count was.reached held empty ended;
      counted = λ past shared. ends_shared steps part tracks nodes ends next.nodes.items past count was.reached held empty ended was.some shared (was.counted past shared);
      run = run;
      states = states;
    }

-- what stops the lines of a layer stops the block
pub underway_stops : {S L : Type 0} (steps : S → L → ℕ → S → Type 0) (last : S → L → ℕ) (breaks : S → L → ℕ → Type 0) (part : Part) (tracks : List (Vec L)) (starts : Layer S) (count : ℕ) (layer : List (Node S)) (left : Limits) (stop : Stop)
    → IsUnderway steps last part tracks starts count layer left → StopsBehind breaks tracks (part_at part count) layer left (runs_behind last (part_at part count) tracks layer) stop → StopsIn steps last breaks part tracks starts stop
underway_stops steps last breaks part tracks starts count layer left Memory was stops = tt
underway_stops steps last breaks part tracks starts count layer left Most was over = far_exceeds steps last part tracks starts.limits starts.nodes.items layer count left was.layers over
underway_stops steps last breaks part tracks starts count layer left (Breaks order) was (old, at, broken) =
    first_break steps breaks part tracks starts.nodes.items layer count old order.items was.reached was.lead_on at broken
