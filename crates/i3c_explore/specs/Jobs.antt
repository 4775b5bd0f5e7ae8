-- The jobs that make a layer, and the layers that they make.
use Rattle.std.specs.Prelude.{◌≡◌, ◌+◌, ◌-◌, ℕ, suc, List, [], ◌∷◌, ◌++◌, Err, IsOkAnd, Ok, Result, Some, ◌<◌, slice_get}
use Rattle.i3c_explore.specs.declared.jobs.Job.{Job}
use Rattle.i3c_explore.specs.declared.layer.Layer.{Layer}
use Rattle.i3c_explore.specs.declared.limits.Limits.{Limits}
use Rattle.i3c_explore.specs.declared.node.Node.{Node}
use Rattle.i3c_explore.specs.declared.stop.Stop.{Stop}
use Rattle.i3c_explore.specs.Layers.{ArePut}
use Rattle.i3c_explore.specs.Notes.{IsMarked}

-- the jobs have the numbers from one up to the one before another
abbrev pub AreJobs : {S : Type 0} → List (Job S) → ℕ → ℕ → Type 0
AreJobs [] from to = from ≡ to
AreJobs (job ∷ jobs) from to = (job.number ≡ from) × AreJobs jobs (suc from) to

-- the nodes of all layers are put, one layer after another
abbrev pub AreJoined : {S : Type 0} → List (Node S) → List (Result (Layer S) Stop) → List (Node S) → Type 0
AreJoined old [] new = new ≡ old
AreJoined {S} old (made ∷ rest) new = IsOkAnd made (λ (layer : Layer S). (mid : List (Node S)) × ArePut old layer.nodes.items mid × AreJoined mid rest new)

-- the steps that jobs took, each of those with which it began
abbrev pub steps_taken : {S : Type 0} → ℕ → List (Result (Layer S) Stop) → ℕ
steps_taken begun [] = 0
steps_taken begun (Ok layer ∷ rest) = (begun - layer.limits.steps) + steps_taken begun rest
steps_taken begun (Err stop ∷ rest) = steps_taken begun rest

-- what jobs left of the limits, with which each of them began
pub record AreTaken {S : Type 0} (limits left : Limits) (made : List (Result (Layer S) Stop)) : Type 0 where
  pub steps : left.steps + steps_taken limits.steps made ≡ limits.steps
  pub states : left.states ≡ limits.states

-- the nodes of all layers, one layer's behind the other's
abbrev pub AreNodesOf : {S : Type 0} → List (Result (Layer S) Stop) → List (Node S) → Type 0
AreNodesOf [] nodes = nodes ≡ []
AreNodesOf {S} (made ∷ rest) nodes = IsOkAnd made (λ (layer : Layer S). (later : List (Node S)) × (nodes ≡ layer.nodes.items ++ later) × AreNodesOf rest later)

-- line k of track t is marked in the layer that a job made, if it made one
abbrev pub IsMarkedIn : {S : Type 0} → Result (Layer S) Stop → ℕ → ℕ → Type 0
IsMarkedIn (Ok layer) t k = IsMarked layer.noted.items t k
IsMarkedIn (Err stop) t k = ⊥

-- line k of track t is marked in one of the first layers
abbrev pub IsMarkedByJobs : {S : Type 0} → List (Result (Layer S) Stop) → ℕ → ℕ → ℕ → Type 0
IsMarkedByJobs {S} layers count t k = (i : ℕ) × (i < count) × ((made : Result (Layer S) Stop) × (slice_get layers i ≡ Some made) × IsMarkedIn made t k)
