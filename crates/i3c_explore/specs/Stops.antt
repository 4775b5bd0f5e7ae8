-- Why an exploration ends before every order was tried.
use Rattle.std.specs.Prelude.{◌≡◌, ◌<◌, ◌≤◌, ◌+◌, ◌⊎◌, ℕ, List, ◌∷◌, Contains, length}
use Rattle.std.specs.Global.{Vec}
use Rattle.i3c_explore.specs.declared.layer.Layer.{Layer}
use Rattle.i3c_explore.specs.declared.limits.Limits.{Limits}
use Rattle.i3c_explore.specs.declared.node.Node.{Node}
use Rattle.i3c_explore.specs.declared.stop.Stop.{Stop}
use Rattle.i3c_explore.specs.declared.stop.Stop.TheVariants.{Breaks, Memory, Most}
use Rattle.i3c_explore.specs.Blocks.{block}
use Rattle.i3c_explore.specs.Layers.{IsBreak, IsFirstBreak}
use Rattle.i3c_explore.specs.Nexts.{BreaksNext}
use Rattle.i3c_explore.specs.Parts.{HasOrder, Part, block_part, fork, part_at}
use Rattle.i3c_explore.specs.Runs.{AreLayers, AreRun, runs_behind, runs_in}

-- there was no memory, or the layer has as many states as it may have
abbrev pub IsFull : {S : Type 0} → Layer S → Stop → Type 0
IsFull layer Memory = Unit {0}
IsFull layer Most = layer.limits.states ≤ length layer.nodes.items
IsFull layer (Breaks order) = ⊥

-- a number of runs is too large for some limits and a layer of `held` states: there are fewer steps, or one state for each run would be too many states
abbrev pub Exceeds : Limits → ℕ → ℕ → Type 0
Exceeds limits held runs = (limits.steps < runs) ⊎ (limits.states < held + runs)

-- why lines that are run from a node stop an exploration: there was no memory, their number of runs exceeds a limit, or one of them breaks an expectation
abbrev pub StopsAt : {S L : Type 0} → (S → L → ℕ → Type 0) → (ℕ → List L) → Node S → Layer S → ℕ → Stop → Type 0
StopsAt breaks lines node layer runs Memory = Unit {0}
StopsAt breaks lines node layer runs Most = Exceeds layer.limits (length layer.nodes.items) runs
StopsAt breaks lines node layer runs (Breaks order) = IsBreak breaks lines node order.items

-- the same of the lines that are run from a layer
abbrev pub StopsBehind : {S L : Type 0} → (S → L → ℕ → Type 0) → List (Vec L) → Part → List (Node S) → Limits → ℕ → Stop → Type 0
StopsBehind breaks tracks part layer limits runs Memory = Unit {0}
StopsBehind breaks tracks part layer limits runs Most = Exceeds limits 0 runs
StopsBehind breaks tracks part layer limits runs (Breaks order) = BreaksNext breaks tracks part layer order.items

-- a block exceeds a limit in a layer: the lines that are run from the layers up to this one are more than `left` steps, or those from this one are more than `most` states
pub record ExceedsInBlock {S L : Type 0} (steps : S → L → ℕ → S → Type 0) (last : S → L → ℕ) (part : Part) (tracks : List (Vec L)) (left most : ℕ) (starts : List (Node S)) : Type 0 where
  pub before : List (List (Node S))
  pub layer : List (Node S)
  pub layers : AreLayers steps last part tracks starts before layer
  pub narrow : (one : List (Node S)) → Contains (layer ∷ before) one → length one ≤ most
  pub over : (left < runs_in last part tracks (layer ∷ before)) ⊎ (most < runs_behind last (part_at part (length before)) tracks layer)

-- why a block stops an exploration
abbrev pub StopsIn : {S L : Type 0} → (S → L → ℕ → S → Type 0) → (S → L → ℕ) → (S → L → ℕ → Type 0) → Part → List (Vec L) → Layer S → Stop → Type 0
StopsIn steps last breaks part tracks starts Memory = Unit {0}
StopsIn steps last breaks part tracks starts Most = ExceedsInBlock steps last part tracks starts.limits.steps starts.limits.states starts.nodes.items
StopsIn steps last breaks part tracks starts (Breaks order) = IsFirstBreak steps breaks part tracks starts.nodes.items order.items

-- blocks exceed a limit in one of them, behind those that are run within the limits
pub record ExceedsIn {S L : Type 0} (steps : S → L → ℕ → S → Type 0) (last : S → L → ℕ) (part : Part) (blocks : List (Vec (Vec L))) (start : S) (limits : Limits) : Type 0 where
  pub index : ℕ
  pub starts : List (Node S)
  pub runs : ℕ
  pub left : ℕ
  pub there : index < length blocks
  pub run : AreRun steps last part blocks start limits.states index starts runs
  pub spent : left + runs ≡ limits.steps
  pub over : ExceedsInBlock steps last (block_part part (fork blocks) index) (block blocks index) left limits.states starts

-- a part with an order exceeds a limit: no layer may have a state, or the layers of a block exceed one
abbrev pub ExceedsLimits : {S L : Type 0} → (S → L → ℕ → S → Type 0) → (S → L → ℕ) → Part → List (Vec (Vec L)) → S → Limits → Type 0
ExceedsLimits steps last part blocks start limits = HasOrder part blocks × ((limits.states ≡ 0) ⊎ ExceedsIn steps last part blocks start limits)
