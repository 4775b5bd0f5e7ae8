-- What comes of a mark, by those that were taken.
use Rattle.std.specs.Prelude.{◌≡◌, ◌<◌, ◌≤◌, ◌++◌, ◌∷◌, ℕ, List, [], Contains, length}
use Rattle.i3c_every.specs.declared.marks.Taken.{Taken}
use Rattle.i3c_every.specs.declared.marks.Taking.{Taking}
use Rattle.i3c_every.specs.declared.met.Met.{Met}

-- this mark was taken at these places, in this state
abbrev pub IsTakenAt : {S : Type 0} → List ℕ → List ℕ → S → Taken S → Type 0
IsTakenAt mark places state taken = (taken.mark ≡ mark) × (taken.places.items ≡ places) × (taken.state ≡ state)

-- a mark is taken where a run is; or it was taken before, in the same state at the same places; or there are as many as may be
abbrev pub Takes : {S : Type 0} → ℕ → List ℕ → Met S → List (Taken S) → Taking → List (Taken S) → Type 0
Takes {S} most mark met old Taking.New new = (length old < most) × ((taken : Taken S) × IsTakenAt mark met.places.items met.state taken × (new ≡ old ++ taken ∷ []))
Takes {S} most mark met old Taking.Known new = (new ≡ old) × ((taken : Taken S) × Contains old taken × IsTakenAt mark met.places.items met.state taken)
Takes most mark met old Taking.Full new = (new ≡ old) × (most ≤ length old)
