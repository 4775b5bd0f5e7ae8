-- The layers of a block and of all blocks, with the lines that are run from them.
use Rattle.std.proofs.Common.{◌≡◌, ◌∙◌, ◌<◌, ◌≤◌, ◌+◌, ◌∷◌, [], ℕ, suc, zero, List, ap, arith, inl, inr, length, refl, subst, sym}
use Rattle.std.specs.Global.{Vec}
use Rattle.std.specs.List.{Contains}
use Rattle.i3c_explore.specs.declared.layer.Layer.{Layer}
use Rattle.i3c_explore.specs.declared.limits.Limits.{Limits}
use Rattle.i3c_explore.specs.declared.node.Node.{Node}
use Rattle.i3c_explore.specs.Blocks.{block}
use Rattle.i3c_explore.specs.Explorations.{IsMadeBy}
use Rattle.i3c_explore.specs.Layers.{AreRestarted, IsAlone}
use Rattle.i3c_explore.specs.Nexts.{FollowsAll}
use Rattle.i3c_explore.specs.Parts.{Part, block_part, fork, opening, part_at}
use Rattle.i3c_explore.specs.Runs.{AreLayers, AreRun, IsBlockRun, runs_behind, runs_in}
use Rattle.i3c_explore.specs.Stops.{Exceeds, ExceedsIn, ExceedsInBlock}

-- the layers of a block so far, each within the limit, and what is left of the limits behind those before the newest one
pub record AreSoFar {S L : Type 0} (steps : S → L → ℕ → S → Type 0) (last : S → L → ℕ) (part : Part) (tracks : List (Vec L)) (limits : Limits) (starts : List (Node S)) (count : ℕ) (newest : List (Node S)) (left : Limits) : Type 0 where
  pub before : List (List (Node S))
  pub sized : length before ≡ count
  pub layers : AreLayers steps last part tracks starts before newest
  pub narrow : (layer : List (Node S)) → Contains (newest ∷ before) layer → length layer ≤ limits.states
  pub counted : left.steps + runs_in last part tracks before ≡ limits.steps
  pub states : left.states ≡ limits.states

narrow_more : {S : Type 0} (most : ℕ) (layer : List (Node S)) (before : List (List (Node S))) → length layer ≤ most → ((other : List (Node S)) → Contains before other → length other ≤ most)
    → (other : List (Node S)) → Contains (layer ∷ before) other → length other ≤ most
narrow_more most layer before here rest other (zero, lt, is) = let e = ap length is in omega arith
narrow_more most layer before here rest other (suc k, lt, is) = rest other (k, omega arith, is)

-- the first layer begins the block
pub far_first : {S L : Type 0} (steps : S → L → ℕ → S → Type 0) (last : S → L → ℕ) (part : Part) (tracks : List (Vec L)) (limits : Limits) (starts layer : List (Node S))
    → AreRestarted (length tracks) starts layer → length layer ≡ length starts → length starts ≤ limits.states → AreSoFar steps last part tracks limits starts 0 layer limits
far_first steps last part tracks limits starts layer restarted same narrow = record {
  before = [];
  sized = refl;
  layers = (restarted, same);
  narrow = narrow_more limits.states layer [] (omega arith) (λ other (k, lt, is). absurd (omega arith));
  counted = omega arith;
  states = refl;
}

-- one more layer
pub far_next : {S L : Type 0} (steps : S → L → ℕ → S → Type 0) (last : S → L → ℕ) (part : Part) (tracks : List (Vec L)) (limits : Limits) (starts layer : List (Node S)) (count : ℕ) (left : Limits) (next : Layer S)
    → AreSoFar steps last part tracks limits starts count layer left → IsMadeBy steps last tracks (part_at part count) (λ _. opening (part_at part count) tracks) layer left next
    → AreSoFar steps last part tracks limits starts (count + 1) next.nodes.items next.limits
far_next {S} {L} steps last part tracks limits starts layer count left next was made =
    let at : part_at part count ≡ part_at part (length was.before) = ap (λ (k : ℕ). part_at part k) (sym was.sized) in
    let ran = ap (λ (p : Part). runs_behind last p tracks layer) at in
    let within = made.within in let spent = within.steps in let before = was.counted in let one = was.states in let fits = within.narrow in let sized = was.sized in let few = made.few in record {
      before = layer ∷ was.before;
      sized = omega arith;
      layers = (was.layers, subst (λ (p : Part). FollowsAll steps tracks p layer next.nodes.items) at made.follows, omega arith);
      narrow = narrow_more limits.states next.nodes.items (layer ∷ was.before) (omega arith) was.narrow;
      counted = omega arith;
      states = within.states ∙ was.states;
    }

none_there : {A : Type 0} (xs : List A) → length xs ≡ 0 → xs ≡ []
none_there [] none = refl
none_there (x ∷ xs) none = absurd (omega arith)

-- nothing follows the ends
pub far_over : {S L : Type 0} (steps : S → L → ℕ → S → Type 0) (last : S → L → ℕ) (part : Part) (tracks : List (Vec L)) (limits : Limits) (starts ends : List (Node S)) (count : ℕ) (left : Limits) (next : Layer S) (behind : Limits) → behind ≡ next.limits
    → AreSoFar steps last part tracks limits starts count ends left → IsMadeBy steps last tracks (part_at part count) (λ _. opening (part_at part count) tracks) ends left next
    → length next.nodes.items ≡ 0 → ((runs : ℕ) × IsBlockRun steps last part tracks limits.states starts ends runs × (behind.steps + runs ≡ limits.steps)) × (behind.states ≡ limits.states)
far_over {S} {L} steps last part tracks limits starts ends count left next behind is was made empty =
    let at : part_at part count ≡ part_at part (length was.before) = ap (λ (k : ℕ). part_at part k) (sym was.sized) in
    let ran = ap (λ (p : Part). runs_behind last p tracks ends) at in
    let within = made.within in let spent = within.steps in let before = was.counted in let same = ap (λ (l : Limits). l.steps) is in
    let nothing : next.nodes.items ≡ [] = none_there next.nodes.items empty in (
      (
        runs_in last part tracks (ends ∷ was.before),
        record {
          before = was.before;
          layers = was.layers;
          over = subst (λ (l : List (Node S)). FollowsAll steps tracks (part_at part (length was.before)) ends l) nothing (subst (λ (p : Part). FollowsAll steps tracks p ends next.nodes.items) at made.follows);
          narrow = was.narrow;
          counted = refl;
        },
        omega arith,
      ),
      ap (λ (l : Limits). l.states) is ∙ within.states ∙ was.states,
    )

-- where the lines of the newest layer exceed what is left, the block exceeds the limits
pub far_exceeds : {S L : Type 0} (steps : S → L → ℕ → S → Type 0) (last : S → L → ℕ) (part : Part) (tracks : List (Vec L)) (limits : Limits) (starts layer : List (Node S)) (count : ℕ) (left : Limits)
    → AreSoFar steps last part tracks limits starts count layer left → Exceeds left 0 (runs_behind last (part_at part count) tracks layer) → ExceedsInBlock steps last part tracks limits.steps limits.states starts
far_exceeds {S} {L} steps last part tracks limits starts layer count left was over =
    let at : part_at part count ≡ part_at part (length was.before) = ap (λ (k : ℕ). part_at part k) (sym was.sized) in
    let ran = ap (λ (p : Part). runs_behind last p tracks layer) at in
    let before = was.counted in let states = was.states in record {
      before = was.before;
      layer = layer;
      layers = was.layers;
      narrow = was.narrow;
      over = elim over [ inl steps_over ↦ inl (omega arith) | inr states_over ↦ inr (omega arith) ];
    }

-- the first blocks are run, within the limits
pub record AreRunSo {S L : Type 0} (steps : S → L → ℕ → S → Type 0) (last : S → L → ℕ) (part : Part) (blocks : List (Vec (Vec L))) (start : S) (limits : Limits) (count : ℕ) (ends : List (Node S)) (left : Limits) : Type 0 where
  pub runs : ℕ
  pub run : AreRun steps last part blocks start limits.states count ends runs
  pub counted : left.steps + runs ≡ limits.steps
  pub states : left.states ≡ limits.states
  pub narrow : length ends ≤ limits.states

pub run_first : {S L : Type 0} (steps : S → L → ℕ → S → Type 0) (last : S → L → ℕ) (part : Part) (blocks : List (Vec (Vec L))) (start : S) (limits : Limits) (first : Layer S)
    → IsAlone start first.nodes.items → first.limits ≡ limits → length first.nodes.items ≤ limits.states → AreRunSo steps last part blocks start limits 0 first.nodes.items first.limits
run_first steps last part blocks start limits first alone is narrow =
    let left = ap (λ (l : Limits). l.steps) is in record { runs = 0; run = (alone, refl); counted = omega arith; states = ap (λ (l : Limits). l.states) is; narrow = narrow }

pub run_next : {S L : Type 0} (steps : S → L → ℕ → S → Type 0) (last : S → L → ℕ) (part : Part) (blocks : List (Vec (Vec L))) (start : S) (limits : Limits) (count : ℕ) (starts ends : List (Node S)) (left behind : Limits) (runs : ℕ) → AreRunSo steps last part blocks start limits count starts left
    → IsBlockRun steps last (block_part part (fork blocks) count) (block blocks count) left.states starts ends runs → behind.steps + runs ≡ left.steps → behind.states ≡ left.states → AreRunSo steps last part blocks start limits (suc count) ends behind
run_next {S} {L} steps last part blocks start limits count starts ends left behind runs was more spent same =
    let before = was.counted in let one = was.states in
    let fits = more.narrow ends (0, omega arith, refl) in
    let run = subst (λ (k : ℕ). IsBlockRun steps last (block_part part (fork blocks) count) (block blocks count) k starts ends runs) was.states more in record {
      runs = was.runs + runs;
      run = (starts, was.runs, runs, was.run, run, refl);
      counted = omega arith;
      states = same ∙ was.states;
      narrow = omega arith;
    }

-- where a block exceeds what is left of the limits, all blocks do
pub run_exceeds : {S L : Type 0} (steps : S → L → ℕ → S → Type 0) (last : S → L → ℕ) (part : Part) (blocks : List (Vec (Vec L))) (start : S) (limits : Limits) (count : ℕ) (starts : List (Node S)) (left : Limits) → count < length blocks → AreRunSo steps last part blocks start limits count starts left
    → ExceedsInBlock steps last (block_part part (fork blocks) count) (block blocks count) left.steps left.states starts → ExceedsIn steps last part blocks start limits
run_exceeds steps last part blocks start limits count starts left there was over = record {
  index = count;
  starts = starts;
  runs = was.runs;
  left = left.steps;
  there = there;
  run = was.run;
  spent = was.counted;
  over = subst (λ (k : ℕ). ExceedsInBlock steps last (block_part part (fork blocks) count) (block blocks count) left.steps k starts) was.states over;
}
