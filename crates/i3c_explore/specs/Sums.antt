-- The parts together have each order once.
use Rattle.std.specs.Prelude.{◌≡◌, ◌<◌, ◌+◌, ℕ, suc, zero, List, Option, Some}
use Rattle.std.specs.Global.{Vec}
use Rattle.i3c_explore.specs.declared.node.Node.{Node}
use Rattle.i3c_explore.specs.declared.turn.Turn.{Turn}
use Rattle.i3c_explore.specs.Blocks.{PartIsCounted}
use Rattle.i3c_explore.specs.Numbers.{IsNumber}
use Rattle.i3c_explore.specs.Parts.{IsOfPart, Part, whole}

-- part `index` of `parts`, counted from 0
abbrev pub part_of : ℕ → ℕ → Part
part_of index parts = record { index = index; of = parts }

-- a course is of exactly one part
abbrev pub IsOfOnePart : {L : Type 0} → ℕ → List (Vec (Vec L)) → List (List Turn) → Type 0
IsOfOnePart parts blocks course = (k : ℕ) × (k < parts) × IsOfPart (part_of k parts) blocks course × ((other : ℕ) → IsOfPart (part_of other parts) blocks course → other ≡ k)

-- the sum of the first numbers
abbrev pub sum_below : (ℕ → ℕ) → ℕ → ℕ
sum_below told zero = 0
sum_below told (suc k) = sum_below told k + told k

-- the numbers that the parts tell are together the number of all interleavings
abbrev pub PartsAddUp : {S L : Type 0} → (S → L → ℕ → S → Type 0) → List (Vec (Vec L)) → S → Type 0
PartsAddUp {S} steps blocks start = (parts : ℕ) (part_ends : ℕ → List (Node S)) (told : ℕ → ℕ) (ends : List (Node S)) (total : Option ℕ) → 0 < parts
    → ((k : ℕ) → k < parts → PartIsCounted steps (part_of k parts) blocks start (part_ends k) (Some (told k)))
    → PartIsCounted steps whole blocks start ends total → IsNumber total (sum_below told parts)
