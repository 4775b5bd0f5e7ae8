-- Blocks of tracks, which run one after another.
use Rattle.std.specs.Prelude.{◌≡◌, ◌<◌, ℕ, List, [], ◌∷◌, ◌++◌, Contains, length, map, reverse, Option, None, Some, slice_get}
use Rattle.std.specs.Global.{Vec}
use Rattle.i3c_explore.specs.declared.node.Node.{Node}
use Rattle.i3c_explore.specs.declared.turn.Turn.{Turn}
use Rattle.i3c_explore.specs.Counts.{AllDistinct, IsShared, plain}
use Rattle.i3c_explore.specs.Numbers.{IsNumber}
use Rattle.i3c_explore.specs.Orders.{Breaks, IsOrder, IsPrefix, Leads}
use Rattle.i3c_explore.specs.Parts.{IsOfPart, Part}

-- A course is an order of each of the first blocks, the newest block first.
-- the tracks of a block; a block that isn't there has none
abbrev pub tracks_in : {L : Type 0} → Option (Vec (Vec L)) → List (Vec L)
tracks_in None = []
tracks_in (Some tracks) = tracks.items

abbrev pub block : {L : Type 0} → List (Vec (Vec L)) → ℕ → List (Vec L)
block blocks b = tracks_in (slice_get blocks b)

-- the turns of a course, the newest first
abbrev pub turns : List (List Turn) → List Turn
turns [] = []
turns (order ∷ before) = order ++ turns before

-- a course: each order is one of its block
abbrev pub IsCourse : {L : Type 0} → List (Vec (Vec L)) → List (List Turn) → Type 0
IsCourse blocks [] = Unit {0}
IsCourse blocks (order ∷ before) = IsCourse blocks before × (length before < length blocks) × IsOrder (block blocks (length before)) order

-- a whole course: an order of each block
abbrev pub IsWhole : {L : Type 0} → List (Vec (Vec L)) → List (List Turn) → Type 0
IsWhole blocks course = IsCourse blocks course × (length course ≡ length blocks)

-- the beginning of a course: the newest order may have run only in part
abbrev pub IsBegun : {L : Type 0} → List (Vec (Vec L)) → List (List Turn) → Type 0
IsBegun blocks [] = Unit {0}
IsBegun blocks (order ∷ before) = IsCourse blocks before × (length before < length blocks) × IsPrefix (block blocks (length before)) order

-- the blocks' lines, run in these orders, lead from start to end
abbrev pub LeadsOn : {S L : Type 0} → (S → L → ℕ → S → Type 0) → List (Vec (Vec L)) → S → List (List Turn) → S → Type 0
LeadsOn steps blocks start [] end = end ≡ start
LeadsOn {S} steps blocks start (order ∷ before) end = (mid : S) × LeadsOn steps blocks start before mid × Leads steps (block blocks (length before)) mid order end

-- the newest line of this course breaks an expectation, and those before it break none
abbrev pub BreaksOn : {S L : Type 0} → (S → L → ℕ → S → Type 0) → (S → L → ℕ → Type 0) → List (Vec (Vec L)) → S → List (List Turn) → Type 0
BreaksOn steps breaks blocks start [] = ⊥
BreaksOn {S} steps breaks blocks start (order ∷ before) = (mid : S) × LeadsOn steps blocks start before mid × Breaks steps breaks (block blocks (length before)) mid order

-- turns of a part that break an expectation, of the shortest ones: each course of the part of fewer turns leads on
pub record IsShortestInPart {S L : Type 0} (steps : S → L → ℕ → S → Type 0) (breaks : S → L → ℕ → Type 0) (part : Part) (blocks : List (Vec (Vec L))) (start : S) (order : List Turn) : Type 0 where
  pub course : List (List Turn)
  pub is : order ≡ reverse (turns course)
  pub begun : IsBegun blocks course
  pub in_part : IsOfPart part blocks course
  pub broken : BreaksOn steps breaks blocks start course
  pub shortest : (other : List (List Turn)) → IsBegun blocks other → IsOfPart part blocks other → length (turns other) < length (turns course) → (end : S) × LeadsOn steps blocks start other end

-- the orders of interleavings, in which each line goes way 0
abbrev pub plain_course : List (List ℕ) → List (List Turn)
plain_course history = map plain history

-- all interleavings of a part, with their number: each is in the share of one end, to which it leads
pub record PartIsCounted {S L : Type 0} (steps : S → L → ℕ → S → Type 0) (part : Part) (blocks : List (Vec (Vec L))) (start : S) (ends : List (Node S)) (total : Option ℕ) : Type 0 where
  pub share : ℕ → List (List (List ℕ))
  pub shared : IsShared ends share
  pub led : (k : ℕ) (history : List (List ℕ)) → Contains (share k) history
      → IsWhole blocks (plain_course history) × IsOfPart part blocks (plain_course history) × ((n : Node S) × (slice_get ends k ≡ Some n) × LeadsOn steps blocks start (plain_course history) n.state)
  pub all : List (List (List ℕ))
  pub distinct : AllDistinct all
  pub each : (history : List (List ℕ)) → IsWhole blocks (plain_course history) → IsOfPart part blocks (plain_course history) → Contains all history
  pub only : (history : List (List ℕ)) → Contains all history → IsWhole blocks (plain_course history) × IsOfPart part blocks (plain_course history)
  pub placed : (history : List (List ℕ)) → Contains all history → (k : ℕ) × Contains (share k) history
  pub number : IsNumber total (length all)
