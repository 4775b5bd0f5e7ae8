-- The marks that all jobs make.
use Rattle.std.proofs.Common.{◌≡◌, ◌∙◌, ◌<◌, ◌==◌, ◌+◌, ℕ, suc, zero, Bool, List, [], ◌∷◌, Result, Ok, Err, IfOk, Some, arith, eq-eqb, get_or, inl, inr, length, refl, subst, sym}
use Rattle.std.specs.Global.{Vec}
use Rattle.std.specs.List.{slice_get}
use Rattle.std.proofs.lemmas.Bool.Decides.{eqb_tells}
use Rattle.std.proofs.lemmas.Option.{get_or_from_slice_get, same_Some}
use Rattle.i3c_explore.specs.declared.layer.Layer.{Layer}
use Rattle.i3c_explore.specs.declared.node.Node.{Node}
use Rattle.i3c_explore.specs.declared.owners.Owners.{Owners}
use Rattle.i3c_explore.specs.declared.jobs.Job.{Job}
use Rattle.i3c_explore.specs.declared.stop.Stop.{Stop}
use Rattle.i3c_explore.specs.Jobs.{AreJobs, AreJoined, IsMarkedByJobs, IsMarkedIn}
use Rattle.i3c_explore.specs.Notes.{Adds, AreMarks, IsMarked, IsNotedBehind, IsQuietBehind, Marks}
use Rattle.i3c_explore.specs.Owners.{AreOwned, own, owner}
use Rattle.i3c_explore.specs.Parts.{Part, opening}
use Rattle.i3c_explore.proofs.Lists.{get_below}
use Rattle.i3c_explore.proofs.Marking.{adds_both, adds_none, marks_joined}
use Rattle.i3c_explore.proofs.Owning.{chosen, line_as, no_line, not_chosen, owner_within}

-- each job has the number of its place
job_at : {S : Type 0} (jobs : List (Job S)) (from to i : ℕ) (default : Job S) → AreJobs jobs from to → i < length jobs → (get_or jobs i default).number ≡ from + i
job_at [] from to i default are lt = absurd (omega arith)
job_at (job ∷ jobs) from to zero default (at, rest) lt = omega arith
job_at (job ∷ jobs) from to (suc i) default (at, rest) lt = let e = job_at jobs (suc from) to i default rest (omega arith) in omega arith

job_count : {S : Type 0} (jobs : List (Job S)) (from to : ℕ) → AreJobs jobs from to → from + length jobs ≡ to
job_count [] from to are = omega arith
job_count (job ∷ jobs) from to (at, rest) = let e = job_count jobs (suc from) to rest in omega arith

-- where layers were joined, each job made one
made_at : {S : Type 0} (old new : List (Node S)) (made : List (Result (Layer S) Stop)) (i : ℕ) → AreJoined old made new → i < length made → (layer : Layer S) × (slice_get made i ≡ Some (Ok layer))
made_at old new [] i joined lt = absurd (omega arith)
made_at old new (Err stop ∷ made) i never lt = absurd never
made_at old new (Ok layer ∷ made) zero (mid, put, more) lt = (layer, refl)
made_at old new (Ok layer ∷ made) (suc i) (mid, put, more) lt = made_at mid new made i more (omega arith)

-- a line that a job runs is one of the lines
noted_all : {S L : Type 0} (notes : S → L → ℕ → Type 0) (owners : Owners) (tracks job : ℕ) (lines : ℕ → List L) (layer : List (Node S)) (count t k : ℕ)
    → IsNotedBehind notes (own owners tracks job lines) layer count t k → IsNotedBehind notes (λ _. lines) layer count t k
noted_all notes owners tracks job lines layer count t k (i, lt, (n, is, (place, line, next, noted))) =
    let mine = own owners tracks job lines i in
    elim (eqb_tells (owner owners tracks i t) job) [
      | inl (takes, _) ↦ (i, lt, (n, is, (place, line, line_as mine lines n.places.items t line (chosen (owner owners tracks i t == job) (lines t) takes) next, noted)))
      | inr (other, _) ↦ absurd (no_line mine n.places.items t line (not_chosen (owner owners tracks i t == job) (lines t) other) next)
    ]

-- what is marked in the layer that a job made
marked_only : {S L : Type 0} (tracks : List (Vec L)) (Noted Quiet : ℕ → ℕ → Type 0) (one : Result (Layer S) Stop) (t k : ℕ) → IfOk one (λ (next : Layer S). AreMarks tracks Noted Quiet next.noted.items) → IsMarkedIn one t k → Noted t k
marked_only tracks Noted Quiet (Ok next) t k marks is = marks.only t k is
marked_only tracks Noted Quiet (Err stop) t k marks is = absurd is

-- the marks of all jobs tell what is noted behind the layer: each line is run by a job
pub jobs_mark : {S L : Type 0} (notes quiet : S → L → ℕ → Type 0) (tracks : List (Vec L)) (lines : ℕ → List L) (owners : Owners) (layer joined : List (Node S)) (jobs : List (Job S)) (made : List (Result (Layer S) Stop)) (count : ℕ) (noted : List (Vec Bool))
    → length made ≡ length jobs
    → ((i : ℕ) → i < length jobs → (job : Job S) (one : Result (Layer S) Stop)
    → IfOk (get_or made i one) (λ (next : Layer S). AreMarks tracks (IsNotedBehind notes (own owners (length tracks) (get_or jobs i job).number lines) layer (length layer)) (IsQuietBehind quiet (own owners (length tracks) (get_or jobs i job).number lines) layer (length layer)) next.noted.items))
    → AreJobs jobs 0 count → AreOwned owners.jobs.items count → 0 < count → AreJoined [] made joined → AreMarks tracks (IsMarkedByJobs made (length made)) (λ t k. IsMarkedByJobs made (length made) t k → ⊥) noted
    → AreMarks tracks (IsNotedBehind notes (λ _. lines) layer (length layer)) (IsQuietBehind quiet (λ _. lines) layer (length layer)) noted
jobs_mark {S} {L} notes quiet tracks lines owners layer joined jobs made count noted len each are owned some all marks = record {
  shape = marks.shape;
  only = λ t k is.
      let (i, lt, (one, at, here)) = marks.only t k is in
      let (job, _) = get_below jobs i (omega arith) in
      let mine = IsNotedBehind notes (own owners (length tracks) (get_or jobs i job).number lines) layer (length layer) in
      let still = IsQuietBehind quiet (own owners (length tracks) (get_or jobs i job).number lines) layer (length layer) in
      let by = subst (λ (r : Result (Layer S) Stop). IfOk r (λ (next : Layer S). AreMarks tracks mine still next.noted.items)) (get_or_from_slice_get made i one one at) (each i (omega arith) job one) in
      noted_all notes owners (length tracks) (get_or jobs i job).number lines layer (length layer) t k (marked_only tracks mine still one t k by here);
  unmarked = λ t k within un i lt n is place line next way.
      let j = owner owners (length tracks) i t in
      let below = owner_within owners (length tracks) count i t owned some in
      let size = job_count jobs 0 count are in
      let (new, at) = made_at [] joined made j all (omega arith) in
      let (job, _) = get_below jobs j (omega arith) in
      let number : j ≡ (get_or jobs j job).number = let e = job_at jobs 0 count j job are (omega arith) in omega arith in
      let mine = IsNotedBehind notes (own owners (length tracks) (get_or jobs j job).number lines) layer (length layer) in
      let still = IsQuietBehind quiet (own owners (length tracks) (get_or jobs j job).number lines) layer (length layer) in
      let by = subst (λ (r : Result (Layer S) Stop). IfOk r (λ (next : Layer S). AreMarks tracks mine still next.noted.items)) (get_or_from_slice_get made j (Ok new) (Ok new) at) (each j (omega arith) job (Ok new)) in
      let quietly = by.unmarked t k within (λ marked. marks.unmarked t k within un (j, omega arith, (Ok new, at, marked))) in
      let takes = eq-eqb j (get_or jobs j job).number number in
      quietly i lt n is place line
      (line_as lines (own owners (length tracks) (get_or jobs j job).number lines i) n.places.items t line (sym (chosen (j == (get_or jobs j job).number) (lines t) takes)) next) way;
}

pub jobs_marked_none : {S : Type 0} (layers : List (Result (Layer S) Stop)) (marks : List (Vec Bool)) → Adds (IsMarkedByJobs layers 0) marks marks
jobs_marked_none layers marks = adds_none (IsMarkedByJobs layers 0) marks (λ t k (i, lt, more). omega arith)

-- the marks of one more job are added
pub jobs_marked_next : {S : Type 0} (layers : List (Result (Layer S) Stop)) (at : ℕ) (one : Result (Layer S) Stop) (old mid new : List (Vec Bool)) → slice_get layers at ≡ Some one
    → Adds (IsMarkedByJobs layers at) old mid → Adds (IsMarkedIn one) mid new → Adds (IsMarkedByJobs layers (at + 1)) old new
jobs_marked_next {S} layers at one old mid new is first second =
    adds_both (IsMarkedByJobs layers at) (IsMarkedIn one) (IsMarkedByJobs layers (at + 1)) old mid new
    (λ t k (i, lt, (made, there, marked)). elim (eqb_tells i at) [
      | inl (_, same) ↦ (
          let alike : made ≡ one = same_Some made one (sym there ∙ subst (λ (j : ℕ). slice_get layers j ≡ Some one) (sym same) is) in
          inr (subst (λ (r : Result (Layer S) Stop). IsMarkedIn r t k) alike marked)
          )
      | inr (_, other) ↦ inl (i, omega arith, (made, there, marked))
    ])
    (λ t k (i, lt, more). (i, omega arith, more)) (λ t k marked. (at, omega arith, (one, is, marked))) first second

-- what is known of a layer with the marks of those before it
pub joined_ok : {S L : Type 0} (notes quiet : S → L → ℕ → Type 0) (part : Part) (tracks : List (Vec L)) (layer : List (Node S)) (made new : Layer S) (old : List (Vec Bool))
    → AreMarks tracks (IsNotedBehind notes (λ _. opening part tracks) layer (length layer)) (IsQuietBehind quiet (λ _. opening part tracks) layer (length layer)) made.noted.items
    → Adds (IsMarked made.noted.items) old new.noted.items → Marks (IsNotedBehind notes (λ _. opening part tracks) layer (length layer)) (IsQuietBehind quiet (λ _. opening part tracks) layer (length layer)) old new.noted.items
joined_ok notes quiet part tracks layer made new old are marks = marks_joined notes quiet part tracks layer (length layer) made.noted.items old new.noted.items are marks
