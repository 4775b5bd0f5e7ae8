-- How often lines are run, and the layers that an exploration makes by them.
use Rattle.std.specs.Prelude.{◌≡◌, ◌≤◌, ◌+◌, ℕ, suc, zero, List, [], ◌∷◌, Contains, Option, None, Some, length, slice_get, slice_index}
use Rattle.std.specs.Global.{Vec}
use Rattle.i3c_explore.specs.declared.layer.Layer.{Layer}
use Rattle.i3c_explore.specs.declared.limits.Limits.{Limits}
use Rattle.i3c_explore.specs.declared.node.Node.{Node}
use Rattle.i3c_explore.specs.Blocks.{block}
use Rattle.i3c_explore.specs.Layers.{AreRestarted, IsAlone}
use Rattle.i3c_explore.specs.Nexts.{FollowsAll}
use Rattle.i3c_explore.specs.Parts.{HasOrder, Part, block_part, fork, opening, part_at}

-- how often a line is run from a state, if there is one: in each way up to its last one
abbrev pub ways_of : {S L : Type 0} → (S → L → ℕ) → S → Option L → ℕ
ways_of last state None = 0
ways_of last state (Some line) = suc (last state line)

-- how often the next lines of the first tracks are run from a node
abbrev pub runs_of : {S L : Type 0} → (S → L → ℕ) → (ℕ → List L) → Node S → ℕ → ℕ
runs_of last lines node zero = 0
runs_of last lines node (suc t) = runs_of last lines node t + ways_of last node.state (slice_get (lines t) (slice_index node.places.items t))

abbrev pub runs_at : {S L : Type 0} → (S → L → ℕ) → (ℕ → List L) → ℕ → Option (Node S) → ℕ
runs_at last lines count None = 0
runs_at last lines count (Some node) = runs_of last lines node count

-- how often lines are run from the first nodes of a layer; `ran` has the lines of each track that are run from a node, by the node's index
abbrev pub runs_from : {S L : Type 0} → (S → L → ℕ) → (ℕ → ℕ → List L) → ℕ → List (Node S) → ℕ → ℕ
runs_from last ran count layer zero = 0
runs_from last ran count layer (suc k) = runs_from last ran count layer k + runs_at last (ran k) count (slice_get layer k)

-- how often lines are run from a layer's nodes: the next one of each track by which orders of a part begin
abbrev pub runs_behind : {S L : Type 0} → (S → L → ℕ) → Part → List (Vec L) → List (Node S) → ℕ
runs_behind last part tracks layer = runs_from last (λ _. opening part tracks) (length tracks) layer (length layer)

-- lines were run for a layer, so many of them: the steps that are left are fewer by them, and the layer keeps to its limit of states
pub record IsCharged {S : Type 0} (old new : Layer S) (runs : ℕ) : Type 0 where
  pub steps : new.limits.steps + runs ≡ old.limits.steps
  pub states : new.limits.states ≡ old.limits.states
  pub narrow : length old.nodes.items ≤ old.limits.states → length new.nodes.items ≤ old.limits.states

-- a layer was made within these limits by so many lines
pub record IsWithin {S : Type 0} (limits : Limits) (next : Layer S) (runs : ℕ) : Type 0 where
  pub steps : next.limits.steps + runs ≡ limits.steps
  pub states : next.limits.states ≡ limits.states
  pub narrow : length next.nodes.items ≤ limits.states

-- the layers of a block up to one of them; those before it come the newest first. The oldest begins the block. Each other one follows the one before, and has no more nodes than lines are run from that
abbrev pub AreLayers : {S L : Type 0} → (S → L → ℕ → S → Type 0) → (S → L → ℕ) → Part → List (Vec L) → List (Node S) → List (List (Node S)) → List (Node S) → Type 0
AreLayers steps last part tracks starts [] layer = AreRestarted (length tracks) starts layer × (length layer ≡ length starts)
AreLayers steps last part tracks starts (layer ∷ before) next =
    AreLayers steps last part tracks starts before layer × FollowsAll steps tracks (part_at part (length before)) layer next × (length next ≤ runs_behind last (part_at part (length before)) tracks layer)

-- how often lines are run from all of a block's layers
abbrev pub runs_in : {S L : Type 0} → (S → L → ℕ) → Part → List (Vec L) → List (List (Node S)) → ℕ
runs_in last part tracks [] = 0
runs_in last part tracks (layer ∷ before) = runs_in last part tracks before + runs_behind last (part_at part (length before)) tracks layer

-- a block is run layer by layer to its ends, which nothing follows: no layer has more nodes than `most`, and the number of lines that were run is that of all layers
pub record IsBlockRun {S L : Type 0} (steps : S → L → ℕ → S → Type 0) (last : S → L → ℕ) (part : Part) (tracks : List (Vec L)) (most : ℕ) (starts ends : List (Node S)) (runs : ℕ) : Type 0 where
  pub before : List (List (Node S))
  pub layers : AreLayers steps last part tracks starts before ends
  pub over : FollowsAll steps tracks (part_at part (length before)) ends []
  pub narrow : (layer : List (Node S)) → Contains (ends ∷ before) layer → length layer ≤ most
  pub counted : runs ≡ runs_in last part tracks (ends ∷ before)

-- the first blocks are run one after another, from the start alone, by so many lines
abbrev pub AreRun : {S L : Type 0} → (S → L → ℕ → S → Type 0) → (S → L → ℕ) → Part → List (Vec (Vec L)) → S → ℕ → ℕ → List (Node S) → ℕ → Type 0
AreRun steps last part blocks start most zero ends runs = IsAlone start ends × (runs ≡ 0)
AreRun {S} steps last part blocks start most (suc b) ends runs = (starts : List (Node S)) × (before : ℕ) × (here : ℕ)
    × AreRun steps last part blocks start most b starts before × IsBlockRun steps last (block_part part (fork blocks) b) (block blocks b) most starts ends here × (runs ≡ before + here)

-- a part is explored layer by layer up to its ends, by so many lines; for a part without an order none is run
pub record IsByLayers {S L : Type 0} (steps : S → L → ℕ → S → Type 0) (last : S → L → ℕ) (part : Part) (blocks : List (Vec (Vec L))) (start : S) (most : ℕ) (ends : List (Node S)) (runs : ℕ) : Type 0 where
  pub run : HasOrder part blocks → AreRun steps last part blocks start most (length blocks) ends runs
  pub idle : (HasOrder part blocks → ⊥) → (ends ≡ []) × (runs ≡ 0)
