-- How often lines are run, and that they are taken from the limits.
use Rattle.std.proofs.Common.{◌≡◌, ◌∙◌, ◌<◌, ◌≤◌, ◌+◌, ◌-◌, ◌⊎◌, ◌∷◌, ◌++◌, [], ℕ, suc, zero, List, Option, None, Some, Result, Ok, Err, IfOk, ap, arith, get_or, inl, inr, length, refl}
use Rattle.std.specs.List.{slice_get}
use Rattle.std.proofs.lemmas.Bool.Decides.{leb_tells}
use Rattle.i3c_explore.specs.declared.jobs.Job.{Job}
use Rattle.i3c_explore.specs.declared.layer.Layer.{Layer}
use Rattle.i3c_explore.specs.declared.limits.Limits.{Limits}
use Rattle.i3c_explore.specs.declared.node.Node.{Node}
use Rattle.i3c_explore.specs.declared.owners.Owners.{Owners}
use Rattle.i3c_explore.specs.declared.stop.Stop.{Stop}
use Rattle.i3c_explore.specs.Jobs.{AreJobs, AreJoined, AreTaken, steps_taken}
use Rattle.i3c_explore.specs.Layers.{ArePut}
use Rattle.i3c_explore.specs.Owners.{own, own_below}
use Rattle.i3c_explore.specs.Runs.{IsCharged, IsWithin, runs_at, runs_from, runs_of, ways_of}
use Rattle.i3c_explore.proofs.Owning.{AreSplit, own_split}
use Rattle.i3c_explore.proofs.Putting.{put_adds}

pub charged_none : {S : Type 0} (layer : Layer S) → IsCharged layer layer 0
charged_none layer = record { steps = omega arith; states = refl; narrow = λ le. le }

pub charged_more : {S : Type 0} (old mid new : Layer S) (one other : ℕ) → IsCharged old mid one → IsCharged mid new other → IsCharged old new (one + other)
charged_more old mid new one other first second =
    let a = first.steps in let b = second.steps in let s = first.states in record {
      steps = omega arith;
      states = second.states ∙ first.states;
      narrow = λ le. let e = first.narrow le in let f = second.narrow (omega arith) in omega arith;
    }

pub within_more : {S : Type 0} (limits : Limits) (old new : Layer S) (runs more : ℕ) → IsWithin limits old runs → IsCharged old new more → IsWithin limits new (runs + more)
within_more limits old new runs more was charged =
    let a = was.steps in let b = charged.steps in let s = was.states in let n = was.narrow in record {
      steps = omega arith;
      states = charged.states ∙ was.states;
      narrow = let f = charged.narrow (omega arith) in omega arith;
    }

-- one track more
pub track_more : {S L : Type 0} (last : S → L → ℕ) (lines : ℕ → List L) (node : Node S) (t : ℕ) → runs_of last lines node (t + 1) ≡ runs_of last lines node t + ways_of last node.state (slice_get (lines t) (get_or node.places.items t 0))
track_more last lines node t = let next : t + 1 ≡ suc t = omega arith in ap (λ (k : ℕ). runs_of last lines node k) next

-- more tracks run no fewer lines
pub tracks_up : {S L : Type 0} (last : S → L → ℕ) (lines : ℕ → List L) (node : Node S) (count more : ℕ) → count ≤ more → runs_of last lines node count ≤ runs_of last lines node more
tracks_up last lines node count zero le = let none : count ≡ 0 = omega arith in let e = ap (λ (k : ℕ). runs_of last lines node k) none in omega arith
tracks_up last lines node count (suc more) le = elim (leb_tells count more) [
  | inl (_, before) ↦ (let rest = tracks_up last lines node count more before in omega arith)
  | inr (_, over) ↦ (let same : count ≡ suc more = omega arith in let e = ap (λ (k : ℕ). runs_of last lines node k) same in omega arith)
]

-- more nodes run no fewer lines
pub nodes_up : {S L : Type 0} (last : S → L → ℕ) (ran : ℕ → ℕ → List L) (count : ℕ) (layer : List (Node S)) (to more : ℕ) → to ≤ more → runs_from last ran count layer to ≤ runs_from last ran count layer more
nodes_up last ran count layer to zero le = let none : to ≡ 0 = omega arith in let e = ap (λ (k : ℕ). runs_from last ran count layer k) none in omega arith
nodes_up last ran count layer to (suc more) le = elim (leb_tells to more) [
  | inl (_, before) ↦ (let rest = nodes_up last ran count layer to more before in omega arith)
  | inr (_, over) ↦ (let same : to ≡ suc more = omega arith in let e = ap (λ (k : ℕ). runs_from last ran count layer k) same in omega arith)
]

-- one node more
pub node_more : {S L : Type 0} (last : S → L → ℕ) (ran : ℕ → ℕ → List L) (count : ℕ) (layer : List (Node S)) (index : ℕ) (node : Node S)
    → slice_get layer index ≡ Some node → runs_from last ran count layer (index + 1) ≡ runs_from last ran count layer index + runs_of last (ran index) node count
node_more {S} last ran count layer index node found =
    let next : index + 1 ≡ suc index = omega arith in
    ap (λ (k : ℕ). runs_from last ran count layer k) next ∙ ap (λ (o : Option (Node S)). runs_from last ran count layer index + runs_at last (ran index) count o) found

node_alike : {S L : Type 0} (last : S → L → ℕ) (one other : ℕ → List L) (node : Node S) (count : ℕ) → ((t : ℕ) → one t ≡ other t) → runs_of last one node count ≡ runs_of last other node count
node_alike last one other node zero same = refl
node_alike {S} {L} last one other node (suc t) same =
    let rest = node_alike last one other node t same in
    let here = ap (λ (l : List L). ways_of last node.state (slice_get l (get_or node.places.items t 0))) (same t) in omega arith

at_alike : {S L : Type 0} (last : S → L → ℕ) (one other : ℕ → List L) (count : ℕ) (node : Option (Node S)) → ((t : ℕ) → one t ≡ other t) → runs_at last one count node ≡ runs_at last other count node
at_alike last one other count None same = refl
at_alike last one other count (Some node) same = node_alike last one other node count same

-- the same lines are run as often
pub runs_alike : {S L : Type 0} (last : S → L → ℕ) (one other : ℕ → ℕ → List L) (count : ℕ) (layer : List (Node S)) (to : ℕ) → ((k t : ℕ) → one k t ≡ other k t) → runs_from last one count layer to ≡ runs_from last other count layer to
runs_alike last one other count layer zero same = refl
runs_alike last one other count layer (suc k) same =
    let rest = runs_alike last one other count layer k same in
    let here = at_alike last (one k) (other k) count (slice_get layer k) (same k) in omega arith

ways_split : {S L : Type 0} (last : S → L → ℕ) (state : S) (mine theirs all : List L) (place : ℕ) → ((mine ≡ all) × (theirs ≡ [])) ⊎ ((mine ≡ []) × (theirs ≡ all))
    → ways_of last state (slice_get mine place) + ways_of last state (slice_get theirs place) ≡ ways_of last state (slice_get all place)
ways_split {S} {L} last state mine theirs all place split = elim split [
  | inl (same, none) ↦ (
      let a = ap (λ (l : List L). ways_of last state (slice_get l place)) same in
      let b : ways_of last state (slice_get theirs place) ≡ 0 = ap (λ (l : List L). ways_of last state (slice_get l place)) none in omega arith
      )
  | inr (none, same) ↦ (
      let a = ap (λ (l : List L). ways_of last state (slice_get l place)) same in
      let b : ways_of last state (slice_get mine place) ≡ 0 = ap (λ (l : List L). ways_of last state (slice_get l place)) none in omega arith
      )
]

node_split : {S L : Type 0} (last : S → L → ℕ) (mine theirs all : ℕ → List L) (node : Node S) (count : ℕ) → ((t : ℕ) → ((mine t ≡ all t) × (theirs t ≡ [])) ⊎ ((mine t ≡ []) × (theirs t ≡ all t)))
    → runs_of last mine node count + runs_of last theirs node count ≡ runs_of last all node count
node_split last mine theirs all node zero split = refl
node_split last mine theirs all node (suc t) split =
    let rest = node_split last mine theirs all node t split in
    let here = ways_split last node.state (mine t) (theirs t) (all t) (get_or node.places.items t 0) (split t) in omega arith

at_split : {S L : Type 0} (last : S → L → ℕ) (mine theirs all : ℕ → List L) (count : ℕ) (node : Option (Node S)) → ((t : ℕ) → ((mine t ≡ all t) × (theirs t ≡ [])) ⊎ ((mine t ≡ []) × (theirs t ≡ all t)))
    → runs_at last mine count node + runs_at last theirs count node ≡ runs_at last all count node
at_split last mine theirs all count None split = refl
at_split last mine theirs all count (Some node) split = node_split last mine theirs all node count split

-- lines that are shared out are run as often as all of them
pub runs_split : {S L : Type 0} (last : S → L → ℕ) (mine theirs all : ℕ → ℕ → List L) (count : ℕ) (layer : List (Node S)) (to : ℕ) → AreSplit mine theirs all
    → runs_from last mine count layer to + runs_from last theirs count layer to ≡ runs_from last all count layer to
runs_split last mine theirs all count layer zero split = refl
runs_split last mine theirs all count layer (suc k) split =
    let rest = runs_split last mine theirs all count layer k split in
    let here = at_split last (mine k) (theirs k) (all k) count (slice_get layer k) (split k) in omega arith

node_idle : {S L : Type 0} (last : S → L → ℕ) (lines : ℕ → List L) (node : Node S) (count : ℕ) → ((t : ℕ) → lines t ≡ []) → runs_of last lines node count ≡ 0
node_idle last lines node zero idle = refl
node_idle {S} {L} last lines node (suc t) idle =
    let rest = node_idle last lines node t idle in
    let here : ways_of last node.state (slice_get (lines t) (get_or node.places.items t 0)) ≡ 0 = ap (λ (l : List L). ways_of last node.state (slice_get l (get_or node.places.items t 0))) (idle t) in omega arith

at_idle : {S L : Type 0} (last : S → L → ℕ) (lines : ℕ → List L) (count : ℕ) (node : Option (Node S)) → ((t : ℕ) → lines t ≡ []) → runs_at last lines count node ≡ 0
at_idle last lines count None idle = refl
at_idle last lines count (Some node) idle = node_idle last lines node count idle

-- where no line runs, none is counted
pub runs_idle : {S L : Type 0} (last : S → L → ℕ) (ran : ℕ → ℕ → List L) (count : ℕ) (layer : List (Node S)) (to : ℕ) → ((k t : ℕ) → ran k t ≡ []) → runs_from last ran count layer to ≡ 0
runs_idle last ran count layer zero idle = refl
runs_idle last ran count layer (suc k) idle =
    let rest = runs_idle last ran count layer k idle in
    let here = at_idle last (ran k) count (slice_get layer k) (idle k) in omega arith

taken_more : {S : Type 0} (begun : ℕ) (made : List (Result (Layer S) Stop)) (layer : Layer S) → steps_taken begun (made ++ Ok layer ∷ []) ≡ steps_taken begun made + (begun - layer.limits.steps)
taken_more begun [] layer = omega arith
taken_more begun (Ok first ∷ made) layer = let rest = taken_more begun made layer in omega arith
taken_more begun (Err stop ∷ made) layer = taken_more begun made layer

-- one more job's steps are taken
pub job_taken : {S : Type 0} (limits old new : Limits) (made : List (Result (Layer S) Stop)) (layer : Layer S)
    → AreTaken limits old made → new.steps + (limits.steps - layer.limits.steps) ≡ old.steps → new.states ≡ old.states → AreTaken limits new (made ++ Ok layer ∷ [])
job_taken limits old new made layer was steps states =
    let more = taken_more limits.steps made layer in let before = was.steps in record { steps = omega arith; states = states ∙ was.states }

-- the jobs' steps are the lines that they ran
pub jobs_run : {S L : Type 0} (last : S → L → ℕ) (lines : ℕ → List L) (owners : Owners) (count : ℕ) (layer : List (Node S)) (limits : Limits) (jobs : List (Job S)) (made : List (Result (Layer S) Stop)) (from to : ℕ) (old new : List (Node S))
    → length made ≡ length jobs
    → ((i : ℕ) → i < length jobs → (job : Job S) (one : Result (Layer S) Stop) → IfOk (get_or made i one) (λ (next : Layer S). IsWithin limits next (runs_from last (own owners count (get_or jobs i job).number lines) count layer (length layer))))
    → AreJobs jobs from to → AreJoined old made new
    → steps_taken limits.steps made + runs_from last (own_below owners count from lines) count layer (length layer) ≡ runs_from last (own_below owners count to lines) count layer (length layer)
jobs_run last lines owners count layer limits [] [] from to old new len each same joined =
    let all = ap (λ (k : ℕ). runs_from last (own_below owners count k lines) count layer (length layer)) same in omega arith
jobs_run last lines owners count layer limits [] (one ∷ made) from to old new len each same joined = absurd (omega arith)
jobs_run last lines owners count layer limits (job ∷ jobs) [] from to old new len each are joined = absurd (omega arith)
jobs_run last lines owners count layer limits (job ∷ jobs) (Err stop ∷ made) from to old new len each are never = absurd never
jobs_run last lines owners count layer limits (job ∷ jobs) (Ok next ∷ made) from to old new len each (at, rest) (mid, put, more) =
    let here = (each 0 (omega arith) job (Ok next)).steps in
    let mine = ap (λ (k : ℕ). runs_from last (own owners count k lines) count layer (length layer)) at in
    let both = runs_split last (own_below owners count from lines) (own owners count from lines) (own_below owners count (suc from) lines) count layer (length layer) (own_split owners count from lines) in
    let later = jobs_run last lines owners count layer limits jobs made (suc from) to mid new (omega arith) (λ i lt r one. each (suc i) (omega arith) r one) rest more in omega arith

put_all_adds : {S : Type 0} (old nodes new : List (Node S)) → ArePut old nodes new → length new ≤ length old + length nodes
put_all_adds old [] new same = let e = ap length same in omega arith
put_all_adds old (node ∷ nodes) new (mid, put, more) = let a = put_adds old mid node put in let b = put_all_adds mid nodes new more in omega arith

-- the jobs' layers, joined, have no more nodes than the lines that the jobs run
pub jobs_few : {S L : Type 0} (last : S → L → ℕ) (lines : ℕ → List L) (owners : Owners) (count : ℕ) (layer : List (Node S)) (jobs : List (Job S)) (made : List (Result (Layer S) Stop)) (from to : ℕ) (old new : List (Node S))
    → length made ≡ length jobs
    → ((i : ℕ) → i < length jobs → (job : Job S) (one : Result (Layer S) Stop) → IfOk (get_or made i one) (λ (next : Layer S). length next.nodes.items ≤ runs_from last (own owners count (get_or jobs i job).number lines) count layer (length layer)))
    → AreJobs jobs from to → AreJoined old made new
    → length new + runs_from last (own_below owners count from lines) count layer (length layer) ≤ length old + runs_from last (own_below owners count to lines) count layer (length layer)
jobs_few last lines owners count layer [] [] from to old new len each same joined =
    let all = ap (λ (k : ℕ). runs_from last (own_below owners count k lines) count layer (length layer)) same in let e = ap length joined in omega arith
jobs_few last lines owners count layer [] (one ∷ made) from to old new len each same joined = absurd (omega arith)
jobs_few last lines owners count layer (job ∷ jobs) [] from to old new len each are joined = absurd (omega arith)
jobs_few last lines owners count layer (job ∷ jobs) (Err stop ∷ made) from to old new len each are never = absurd never
jobs_few last lines owners count layer (job ∷ jobs) (Ok next ∷ made) from to old new len each (at, rest) (mid, put, more) =
    let here = each 0 (omega arith) job (Ok next) in
    let mine = ap (λ (k : ℕ). runs_from last (own owners count k lines) count layer (length layer)) at in
    let both = runs_split last (own_below owners count from lines) (own owners count from lines) (own_below owners count (suc from) lines) count layer (length layer) (own_split owners count from lines) in
    let adds = put_all_adds old next.nodes.items mid put in
    let later = jobs_few last lines owners count layer jobs made (suc from) to mid new (omega arith) (λ i lt r one. each (suc i) (omega arith) r one) rest more in omega arith

pub all_few : {S L : Type 0} (last : S → L → ℕ) (lines : ℕ → List L) (owners : Owners) (count jobs : ℕ) (layer joined next : List (Node S))
    → ((k t : ℕ) → own_below owners count 0 lines k t ≡ []) → ((k t : ℕ) → own_below owners count jobs lines k t ≡ lines t)
    → length joined + runs_from last (own_below owners count 0 lines) count layer (length layer) ≤ 0 + runs_from last (own_below owners count jobs lines) count layer (length layer)
    → length next ≡ length joined → length next ≤ runs_from last (λ _. lines) count layer (length layer)
all_few last lines owners count jobs layer joined next none all few sized =
    let first = runs_idle last (own_below owners count 0 lines) count layer (length layer) none in
    let rest = runs_alike last (own_below owners count jobs lines) (λ _. lines) count layer (length layer) all in omega arith

-- all lines are run by the jobs, each once
pub all_run : {S L : Type 0} (last : S → L → ℕ) (lines : ℕ → List L) (owners : Owners) (count jobs : ℕ) (layer : List (Node S)) (limits : Limits) (made : List (Result (Layer S) Stop)) (next : Layer S)
    → ((k t : ℕ) → own_below owners count 0 lines k t ≡ []) → ((k t : ℕ) → own_below owners count jobs lines k t ≡ lines t)
    → steps_taken limits.steps made + runs_from last (own_below owners count 0 lines) count layer (length layer) ≡ runs_from last (own_below owners count jobs lines) count layer (length layer)
    → AreTaken limits next.limits made → length next.nodes.items ≤ limits.states → IsWithin limits next (runs_from last (λ _. lines) count layer (length layer))
all_run last lines owners count jobs layer limits made next none all are taken narrow =
    let first = runs_idle last (own_below owners count 0 lines) count layer (length layer) none in
    let rest = runs_alike last (own_below owners count jobs lines) (λ _. lines) count layer (length layer) all in
    let left = taken.steps in record { steps = omega arith; states = taken.states; narrow = narrow }
