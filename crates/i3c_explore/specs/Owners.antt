-- Which job runs the next line of a track from a node of a layer.
use Rattle.std.specs.Prelude.{◌+◌, ◌*◌, ◌==◌, ◌<◌, ◌≡◌, ℕ, Bool, suc, List, [], Option, None, Some, nat_le, if◌then◌else◌, slice_get}
use Rattle.i3c_explore.specs.declared.owners.Owners.{Owners}

-- the number of a row or a job, which is the first one's where none is noted
abbrev pub number : Option ℕ → ℕ
number None = 0
number (Some noted) = noted

-- the job that runs the next line of a track from a node, where each row has `tracks` jobs
abbrev pub owner : Owners → ℕ → ℕ → ℕ → ℕ
owner owners tracks node track = number (slice_get owners.jobs.items (number (slice_get owners.rows.items node) * tracks + track))

-- whether it is this job
abbrev pub takes : Owners → ℕ → ℕ → ℕ → ℕ → Bool
takes owners tracks job node track = owner owners tracks node track == job

-- each job that is noted is below `count`
abbrev pub AreOwned : List ℕ → ℕ → Type 0
AreOwned jobs count = (k job : ℕ) → slice_get jobs k ≡ Some job → job < count

-- the lines of each track that a job runs from a node
abbrev pub own : {L : Type 0} → Owners → ℕ → ℕ → (ℕ → List L) → ℕ → ℕ → List L
own owners tracks job lines node track = if takes owners tracks job node track then lines track else []

-- the lines that the jobs below a number run from a node
abbrev pub own_below : {L : Type 0} → Owners → ℕ → ℕ → (ℕ → List L) → ℕ → ℕ → List L
own_below owners tracks count lines node track = if nat_le (suc (owner owners tracks node track)) count then lines track else []
