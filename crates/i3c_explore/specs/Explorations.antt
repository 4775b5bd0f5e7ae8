-- What explorations promise: of a node's lines, of a layer, of a block, and of all blocks.
use Rattle.std.specs.Prelude.{◌≡◌, ◌≤◌, ◌+◌, ◌++◌, ℕ, List, Contains, Err, Ok, Result, length, reverse}
use Rattle.std.specs.Global.{Vec}
use Rattle.i3c_explore.specs.declared.layer.Layer.{Layer}
use Rattle.i3c_explore.specs.declared.limits.Limits.{Limits}
use Rattle.i3c_explore.specs.declared.node.Node.{Node}
use Rattle.i3c_explore.specs.declared.stop.Stop.{Stop}
use Rattle.i3c_explore.specs.declared.stop.Stop.TheVariants.{Breaks, Memory, Most}
use Rattle.i3c_explore.specs.declared.turn.Turn.{Turn}
use Rattle.i3c_explore.specs.declared.walk.Explored.{Explored}
use Rattle.i3c_explore.specs.Blocks.{BreaksOn, IsBegun, IsShortestInPart, IsWhole, LeadsOn, PartIsCounted, turns}
use Rattle.i3c_explore.specs.Counts.{IsShared}
use Rattle.i3c_explore.specs.Layers.{AreFrom, Keeps}
use Rattle.i3c_explore.specs.Nexts.{IsNextOf}
use Rattle.i3c_explore.specs.Notes.{AreNoted}
use Rattle.i3c_explore.specs.Orders.{IsDetermined, IsExclusive, IsOrder, IsPrefix, Leads}
use Rattle.i3c_explore.specs.Parts.{IsOfPart, Part, opening}
use Rattle.i3c_explore.specs.Runs.{IsBlockRun, IsByLayers, IsCharged, IsWithin, runs_from}
use Rattle.i3c_explore.specs.Shares.{AreShared, Gains}
use Rattle.i3c_explore.specs.Splits.{IsInPart}
use Rattle.i3c_explore.specs.Stops.{ExceedsLimits, StopsBehind, StopsIn}

-- lines that are run from a node put what they lead to into a layer, and nothing else: it has the orders that are `made` of the node's own ones, and each run takes a step and adds a state at most
pub record Grows {S L : Type 0} (steps : S → L → ℕ → S → Type 0) (lines : ℕ → List L) (tracks : List (Vec L)) (node : Node S) (old new : Layer S) (made : List (List ℕ × List (List ℕ)) → List (List ℕ × List (List ℕ))) (runs : ℕ) : Type 0 where
  pub keeps : Keeps old.nodes.items new.nodes.items
  pub from : AreFrom steps lines node old.nodes.items new.nodes.items
  pub counted : Gains steps tracks node old.nodes.items new.nodes.items made
  pub charged : IsCharged old new runs
  pub few : length new.nodes.items ≤ length old.nodes.items + runs

-- a layer is made of all nodes of a layer, within the limits, with no more nodes than lines are run; `ran` has the lines of each track that are run from a node, by the node's index
pub record IsMadeBy {S L : Type 0} (steps : S → L → ℕ → S → Type 0) (last : S → L → ℕ) (tracks : List (Vec L)) (part : Part) (ran : ℕ → ℕ → List L) (layer : List (Node S)) (limits : Limits) (next : Layer S) : Type 0 where
  pub follows : IsNextOf steps tracks (opening part tracks) ran layer 0 (length layer) next.nodes.items
  pub within : IsWithin limits next (runs_from last ran (length tracks) layer (length layer))
  pub few : length next.nodes.items ≤ runs_from last ran (length tracks) layer (length layer)

-- what is made of a layer: the next one, or nothing, since a line stops the exploration
abbrev pub MakesBy : {S L : Type 0} → (S → L → ℕ → S → Type 0) → (S → L → ℕ) → (S → L → ℕ → Type 0) → List (Vec L) → Part → (ℕ → ℕ → List L) → List (Node S) → Limits → Result (Layer S) Stop → Type 0
MakesBy steps last breaks tracks part ran layer limits (Ok next) = IsMadeBy steps last tracks part ran layer limits next
MakesBy steps last breaks tracks part ran layer limits (Err stop) = StopsBehind breaks tracks part layer limits (runs_from last ran (length tracks) layer (length layer)) stop

-- the same by all lines of the tracks by which orders of the part begin
abbrev pub MakesNext : {S L : Type 0} → (S → L → ℕ → S → Type 0) → (S → L → ℕ) → (S → L → ℕ → Type 0) → List (Vec L) → Part → List (Node S) → Limits → Result (Layer S) Stop → Type 0
MakesNext steps last breaks tracks part layer limits result = MakesBy steps last breaks tracks part (λ _. opening part tracks) layer limits result

-- a part's orders of a block lead from the starts to the ends
pub record BlockLeadsTo {S L : Type 0} (steps : S → L → ℕ → S → Type 0) (last : S → L → ℕ) (part : Part) (tracks : List (Vec L)) (starts found : Layer S) : Type 0 where
  -- every order of the part, and every beginning of one, leads on from each start
  pub all : (s : Node S) → Contains starts.nodes.items s → (order : List Turn) → IsPrefix tracks order → IsInPart part.index part.of order → (end : S) × Leads steps tracks s.state order end
  -- every order of the part leads to one of the ends
  pub ends : (s : Node S) → Contains starts.nodes.items s → (order : List Turn) → IsOrder tracks order → IsInPart part.index part.of order → (n : Node S) × Contains found.nodes.items n × Leads steps tracks s.state order n.state
  -- each end is reached from a start, by the order of the part that it has
  pub reached : (n : Node S) → Contains found.nodes.items n
      → (s : Node S) × Contains starts.nodes.items s × ((order : List Turn) × IsOrder tracks order × IsInPart part.index part.of order × (n.order.items ≡ s.order.items ++ reverse order) × Leads steps tracks s.state order n.state)
  -- the part's interleavings are counted at the ends to which they lead
  pub counted : (past : ℕ → List (List (List ℕ))) → IsShared starts.nodes.items past → AreShared steps part tracks starts.nodes.items found.nodes.items past
  -- the ends are reached layer by layer, and the lines that are run are taken from the steps
  pub run : (runs : ℕ) × IsBlockRun steps last part tracks starts.limits.states starts.nodes.items found.nodes.items runs × (found.limits.steps + runs ≡ starts.limits.steps)
  -- the limit of states stays
  pub states : found.limits.states ≡ starts.limits.states

-- what the exploration of a block answers
abbrev pub ExploresBlock : {S L : Type 0} → (S → L → ℕ → S → Type 0) → (S → L → ℕ) → (S → L → ℕ → Type 0) → Part → List (Vec L) → Layer S → Result (Layer S) Stop → Type 0
ExploresBlock steps last breaks part tracks starts (Ok ends) = BlockLeadsTo steps last part tracks starts ends
ExploresBlock steps last breaks part tracks starts (Err stop) = StopsIn steps last breaks part tracks starts stop

-- a part's orders of all blocks lead from the start to what was found
pub record AllLeadTo {S L : Type 0} (steps : S → L → ℕ → S → Type 0) (last : S → L → ℕ) (breaks notes quiet : S → L → ℕ → Type 0) (part : Part) (blocks : List (Vec (Vec L))) (start : S) (limits : Limits) (found : Explored S) : Type 0 where
  -- every order of the part, and every beginning of one, leads on: no line breaks an expectation
  pub all : (course : List (List Turn)) → IsBegun blocks course → IsOfPart part blocks course → (end : S) × LeadsOn steps blocks start course end
  -- no order of the part breaks an expectation in another run, where steps are determined and what breaks leads nowhere
  pub unbroken : IsDetermined steps → IsExclusive steps breaks → (course : List (List Turn)) → IsBegun blocks course → IsOfPart part blocks course → BreaksOn steps breaks blocks start course → ⊥
  -- every order of the part leads to one of the ends
  pub ends : (course : List (List Turn)) → IsWhole blocks course → IsOfPart part blocks course → (n : Node S) × Contains found.ends.items n × LeadsOn steps blocks start course n.state
  -- it leads to no other state, where steps are determined
  pub only : IsDetermined steps → (course : List (List Turn)) → IsWhole blocks course → IsOfPart part blocks course → (end : S) → LeadsOn steps blocks start course end → (n : Node S) × Contains found.ends.items n × (n.state ≡ end)
  -- each end is reached by the order that it has, which is of the part
  pub reached : (n : Node S) → Contains found.ends.items n → (course : List (List Turn)) × IsWhole blocks course × IsOfPart part blocks course × (n.order.items ≡ reverse (turns course)) × LeadsOn steps blocks start course n.state
  -- the part's interleavings are counted, all together and at the ends to which they lead
  pub counted : PartIsCounted steps part blocks start found.ends.items found.orders
  -- the ends are reached layer by layer from the start alone: no layer has more states than the limit, and the steps are the lines that were run from the states of all layers, each in each of its ways
  pub layers : IsByLayers steps last part blocks start limits.states found.ends.items found.steps
  -- there are no more ends than the limit of states
  pub states : length found.ends.items ≤ limits.states
  -- no more lines were run than the limit of steps
  pub within : found.steps ≤ limits.steps
  -- it is told of each line whether it is noted in some order of the part, or can run without a note in each
  pub noted : AreNoted steps notes quiet part blocks start found.noted.items

-- what an exploration answers: the ends to which all orders of the part lead; or an order of the part that breaks an expectation at its last line, where no shorter one does; or that a limit is exceeded; or that there was no memory
abbrev pub Explores : {S L : Type 0} → (S → L → ℕ → S → Type 0) → (S → L → ℕ) → (S → L → ℕ → Type 0) → (S → L → ℕ → Type 0) → (S → L → ℕ → Type 0) → Part → List (Vec (Vec L)) → S → Limits → Result (Explored S) Stop → Type 0
Explores steps last breaks notes quiet part blocks start limits (Ok found) = AllLeadTo steps last breaks notes quiet part blocks start limits found
Explores steps last breaks notes quiet part blocks start limits (Err (Breaks order)) = IsShortestInPart steps breaks part blocks start order.items
Explores steps last breaks notes quiet part blocks start limits (Err Most) = ExceedsLimits steps last part blocks start limits
Explores steps last breaks notes quiet part blocks start limits (Err Memory) = Unit {0}
