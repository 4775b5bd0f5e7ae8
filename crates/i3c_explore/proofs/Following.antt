-- The layer that the layers of all jobs make.
use Rattle.std.proofs.Common.{◌≡◌, ◌∙◌, ◌<◌, ◌+◌, ◌++◌, ◌∷◌, [], ℕ, suc, List, Result, Ok, Err, IfOk, ap, arith, get_or, inl, length, refl, subst, sym}
use Rattle.std.specs.Global.{Vec}
use Rattle.std.proofs.lemmas.List.{append-nil, append_assoc}
use Rattle.i3c_explore.specs.declared.layer.Layer.{Layer}
use Rattle.i3c_explore.specs.declared.node.Node.{Node}
use Rattle.i3c_explore.specs.declared.owners.Owners.{Owners}
use Rattle.i3c_explore.specs.declared.jobs.Job.{Job}
use Rattle.i3c_explore.specs.declared.stop.Stop.{Stop}
use Rattle.i3c_explore.specs.Layers.{ArePut}
use Rattle.i3c_explore.specs.Nexts.{IsNextOf}
use Rattle.i3c_explore.specs.Jobs.{AreJobs, AreJoined}
use Rattle.i3c_explore.specs.Owners.{own, own_below}
use Rattle.i3c_explore.proofs.Nexts.{next_split}
use Rattle.i3c_explore.proofs.Owning.{own_split}

jobs_more : {S : Type 0} (jobs : List (Job S)) (job : Job S) (from to : ℕ) → AreJobs jobs from to → job.number ≡ to → AreJobs (jobs ++ job ∷ []) from (suc to)
jobs_more [] job from to same number = (number ∙ sym same, ap suc same)
jobs_more (other ∷ jobs) job from to (at, rest) number = (at, jobs_more jobs job (suc from) to rest number)

pub jobs_next : {S : Type 0} (jobs : List (Job S)) (job : Job S) (from to : ℕ) → AreJobs jobs from to → job.number ≡ to → AreJobs (jobs ++ job ∷ []) from (to + 1)
jobs_next {S} jobs job from to are number = let next : suc to ≡ to + 1 = omega arith in subst (λ (k : ℕ). AreJobs (jobs ++ job ∷ []) from k) next (jobs_more jobs job from to are number)

put_behind : {S : Type 0} (old nodes : List (Node S)) → ArePut old nodes (old ++ nodes)
put_behind old [] = append-nil old
put_behind {S} old (n ∷ nodes) =
    (old ++ n ∷ [], inl refl, subst (λ (l : List (Node S)). ArePut (old ++ n ∷ []) nodes l) (append_assoc old (n ∷ []) nodes) (put_behind (old ++ n ∷ []) nodes))

-- nodes that are put into an empty layer are that layer
pub put_first : {S : Type 0} (old nodes : List (Node S)) → length old ≡ 0 → ArePut old nodes nodes
put_first [] nodes none = put_behind [] nodes
put_first (n ∷ old) nodes none = absurd (omega arith)

-- the layers of jobs, joined, follow all nodes by the lines of all of them
pub jobs_follow : {S L : Type 0} (steps : S → L → ℕ → S → Type 0) (tracks : List (Vec L)) (lines : ℕ → List L) (owners : Owners) (layer : List (Node S)) (jobs : List (Job S)) (made : List (Result (Layer S) Stop)) (from to : ℕ) (old new : List (Node S))
    → length made ≡ length jobs
    → ((i : ℕ) → i < length jobs → (job : Job S) (one : Result (Layer S) Stop) → IfOk (get_or made i one) (λ (next : Layer S). IsNextOf steps tracks lines (own owners (length tracks) (get_or jobs i job).number lines) layer 0 (length layer) next.nodes.items))
    → AreJobs jobs from to → AreJoined old made new → IsNextOf steps tracks lines (own_below owners (length tracks) from lines) layer 0 (length layer) old
    → IsNextOf steps tracks lines (own_below owners (length tracks) to lines) layer 0 (length layer) new
jobs_follow {S} steps tracks lines owners layer [] [] from to old new len each same joined before =
    subst (λ (l : List (Node S)). IsNextOf steps tracks lines (own_below owners (length tracks) to lines) layer 0 (length layer) l) (sym joined)
    (subst (λ (k : ℕ). IsNextOf steps tracks lines (own_below owners (length tracks) k lines) layer 0 (length layer) old) same before)
jobs_follow steps tracks lines owners layer [] (one ∷ made) from to old new len each same joined before = absurd (omega arith)
jobs_follow steps tracks lines owners layer (job ∷ jobs) [] from to old new len each are joined before = absurd (omega arith)
jobs_follow steps tracks lines owners layer (job ∷ jobs) (Err stop ∷ made) from to old new len each are never before = absurd never
jobs_follow {S} {L} steps tracks lines owners layer (job ∷ jobs) (Ok next ∷ made) from to old new len each (at, rest) (mid, put, more) before =
    let count = length tracks in
    let here : IsNextOf steps tracks lines (own owners count from lines) layer 0 (length layer) next.nodes.items =
    subst (λ (k : ℕ). IsNextOf steps tracks lines (own owners count k lines) layer 0 (length layer) next.nodes.items) at (each 0 (omega arith) job (Ok next)) in
    let both = next_split steps tracks lines (own_below owners count from lines) (own owners count from lines) (own_below owners count (suc from) lines) layer 0 (length layer) old next.nodes.items mid
    (own_split owners count from lines) put before here in
    jobs_follow steps tracks lines owners layer jobs made (suc from) to mid new (omega arith) (λ i lt r one. each (suc i) (omega arith) r one) rest more both
