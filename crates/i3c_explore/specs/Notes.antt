-- Lines that a machine notes, and the marks that tell them.
use Rattle.std.specs.Prelude.{◌≡◌, ◌<◌, ◌⊎◌, ℕ, Bool, List, [], ◌∷◌, Contains, Some, length, slice_get, slice_index, true}
use Rattle.std.specs.Global.{Vec}
use Rattle.i3c_explore.specs.declared.node.Node.{Node}
use Rattle.i3c_explore.specs.declared.turn.Turn.{Turn}
use Rattle.i3c_explore.specs.Blocks.{IsBegun, LeadsOn, block}
use Rattle.i3c_explore.specs.Layers.{IsNextAt}
use Rattle.i3c_explore.specs.Orders.{IsNext, IsPrefix, Leads, track, turns_of}
use Rattle.i3c_explore.specs.Parts.{IsOfPart, Part}
use Rattle.i3c_explore.specs.Splits.{IsInPart}

-- the newest line of this order is noted, in the state to which those before it lead
abbrev pub Notes : {S L : Type 0} → (S → L → ℕ → S → Type 0) → (S → L → ℕ → Type 0) → List (Vec L) → S → List Turn → Type 0
Notes steps notes tracks start [] = ⊥
Notes {S} {L} steps notes tracks start (turn ∷ before) = (mid : S) × (line : L) × Leads steps tracks start before mid × IsNext tracks before turn.track line × notes mid line turn.way

-- the newest line of this course is noted, in the state to which those before it lead
abbrev pub NotesOn : {S L : Type 0} → (S → L → ℕ → S → Type 0) → (S → L → ℕ → Type 0) → List (Vec (Vec L)) → S → List (List Turn) → Type 0
NotesOn steps notes blocks start [] = ⊥
NotesOn {S} steps notes blocks start (order ∷ before) = (mid : S) × LeadsOn steps blocks start before mid × Notes steps notes (block blocks (length before)) mid order

-- the newest line of this order can run without a note, in a state to which those before it lead
abbrev pub Quiets : {S L : Type 0} → (S → L → ℕ → S → Type 0) → (S → L → ℕ → Type 0) → List (Vec L) → S → List Turn → Type 0
Quiets steps quiet tracks start [] = ⊥
Quiets {S} {L} steps quiet tracks start (turn ∷ before) = (mid : S) × (line : L) × Leads steps tracks start before mid × IsNext tracks before turn.track line × quiet mid line turn.way

-- the newest line of this course can run without a note, in a state to which those before it lead
abbrev pub QuietsOn : {S L : Type 0} → (S → L → ℕ → S → Type 0) → (S → L → ℕ → Type 0) → List (Vec (Vec L)) → S → List (List Turn) → Type 0
QuietsOn steps quiet blocks start [] = ⊥
QuietsOn {S} steps quiet blocks start (order ∷ before) = (mid : S) × LeadsOn steps blocks start before mid × Quiets steps quiet (block blocks (length before)) mid order

-- the newest line of an order is line k of track t
abbrev pub EndsAt : ℕ → ℕ → List Turn → Type 0
EndsAt t k [] = ⊥
EndsAt t k (turn ∷ before) = (turn.track ≡ t) × (turns_of t before ≡ k)

-- the newest line of a course is line k of track t, in block b
abbrev pub EndsIn : ℕ → ℕ → ℕ → List (List Turn) → Type 0
EndsIn b t k [] = ⊥
EndsIn b t k (order ∷ before) = (length before ≡ b) × EndsAt t k order

-- line k of track t of a block is marked
abbrev pub IsMarked : List (Vec Bool) → ℕ → ℕ → Type 0
IsMarked marks t k = slice_get (track marks t) k ≡ Some true

-- line k of track t in block b is marked
abbrev pub IsTold : List (Vec (Vec Bool)) → ℕ → ℕ → ℕ → Type 0
IsTold noted b t k = IsMarked (block noted b) t k

-- the marks of a block have its shape: one for each line
abbrev pub HasShape : {L : Type 0} → List (Vec L) → List (Vec Bool) → Type 0
HasShape tracks marks = (length marks ≡ length tracks) × ((t : ℕ) → length (track marks t) ≡ length (track tracks t))

-- no line of a block is marked
abbrev pub IsUnmarked : List (Vec Bool) → Type 0
IsUnmarked marks = (t k : ℕ) → IsMarked marks t k → ⊥

-- marks are added: only those of lines that are noted. Each line that has a mark, and isn't marked, is quiet
pub record Marks (Noted Quiet : ℕ → ℕ → Type 0) (old new : List (Vec Bool)) : Type 0 where
  pub sized : length new ≡ length old
  pub shaped : (t : ℕ) → length (track new t) ≡ length (track old t)
  pub kept : (t k : ℕ) → IsMarked old t k → IsMarked new t k
  pub from : (t k : ℕ) → IsMarked new t k → IsMarked old t k ⊎ Noted t k
  pub unmarked : (t k : ℕ) → k < length (track old t) → (IsMarked new t k → ⊥) → Quiet t k

-- the marks of some lines are added, and no others: of a line without a mark nothing is told
abbrev pub Adds : (ℕ → ℕ → Type 0) → List (Vec Bool) → List (Vec Bool) → Type 0
Adds Noted old new = Marks Noted (λ t k. Noted t k → ⊥) old new

-- the marks of a block: only lines that are noted are marked, and each other line is quiet
pub record AreMarks {L : Type 0} (tracks : List (Vec L)) (Noted Quiet : ℕ → ℕ → Type 0) (marks : List (Vec Bool)) : Type 0 where
  pub shape : HasShape tracks marks
  pub only : (t k : ℕ) → IsMarked marks t k → Noted t k
  pub unmarked : (t k : ℕ) → k < length (track tracks t) → (IsMarked marks t k → ⊥) → Quiet t k

-- line k of track t is the next one of a node, and is noted from there in some way; `lines` has the lines of each track that are run
abbrev pub IsNoted : {S L : Type 0} → (S → L → ℕ → Type 0) → (ℕ → List L) → Node S → ℕ → ℕ → Type 0
IsNoted {S} {L} notes lines node t k = (slice_index node.places.items t ≡ k) × (line : L) × IsNextAt lines node.places.items t line × ((way : ℕ) × notes node.state line way)

-- line k of track t is quiet from a node in each way, if it is the next one there
abbrev pub IsQuiet : {S L : Type 0} → (S → L → ℕ → Type 0) → (ℕ → List L) → Node S → ℕ → ℕ → Type 0
IsQuiet {S} {L} quiet lines node t k = slice_index node.places.items t ≡ k → (line : L) → IsNextAt lines node.places.items t line → (way : ℕ) → quiet node.state line way

-- line k of track t is noted from one of the first nodes of a layer; `ran` has the lines of each track that are run from a node, by the node's index
abbrev pub IsNotedBehind : {S L : Type 0} → (S → L → ℕ → Type 0) → (ℕ → ℕ → List L) → List (Node S) → ℕ → ℕ → ℕ → Type 0
IsNotedBehind {S} notes ran layer count t k = (i : ℕ) × (i < count) × ((n : Node S) × (slice_get layer i ≡ Some n) × IsNoted notes (ran i) n t k)

-- line k of track t is quiet from each of the first nodes of a layer
abbrev pub IsQuietBehind : {S L : Type 0} → (S → L → ℕ → Type 0) → (ℕ → ℕ → List L) → List (Node S) → ℕ → ℕ → ℕ → Type 0
IsQuietBehind {S} quiet ran layer count t k = (i : ℕ) → i < count → (n : Node S) → slice_get layer i ≡ Some n → IsQuiet quiet (ran i) n t k

-- line k of track t is noted in some order of a part, from one of the starts of a block
abbrev pub IsNotedIn : {S L : Type 0} → (S → L → ℕ → S → Type 0) → (S → L → ℕ → Type 0) → Part → List (Vec L) → List (Node S) → ℕ → ℕ → Type 0
IsNotedIn {S} steps notes part tracks starts t k = (s : Node S) × Contains starts s × ((order : List Turn) × IsPrefix tracks order × IsInPart part.index part.of order × EndsAt t k order × Notes steps notes tracks s.state order)

-- line k of track t can run without a note in each order of a part that it ends, from each of the starts of a block
abbrev pub IsQuietIn : {S L : Type 0} → (S → L → ℕ → S → Type 0) → (S → L → ℕ → Type 0) → Part → List (Vec L) → List (Node S) → ℕ → ℕ → Type 0
IsQuietIn {S} steps quiet part tracks starts t k = (s : Node S) → Contains starts s → (order : List Turn) → IsPrefix tracks order → IsInPart part.index part.of order → EndsAt t k order → Quiets steps quiet tracks s.state order

-- the marks of a block tell of each line whether it is noted in some order of a part, or can run without a note in each
pub record BlockIsNoted {S L : Type 0} (steps : S → L → ℕ → S → Type 0) (notes quiet : S → L → ℕ → Type 0) (part : Part) (tracks : List (Vec L)) (starts : List (Node S)) (marks : List (Vec Bool)) : Type 0 where
  pub shape : HasShape tracks marks
  pub only : (t k : ℕ) → IsMarked marks t k → IsNotedIn steps notes part tracks starts t k
  pub each : (t k : ℕ) → (IsMarked marks t k → ⊥) → IsQuietIn steps quiet part tracks starts t k

-- the marks of all blocks tell of each line whether it is noted in some course of a part, or can run without a note in each
pub record AreNoted {S L : Type 0} (steps : S → L → ℕ → S → Type 0) (notes quiet : S → L → ℕ → Type 0) (part : Part) (blocks : List (Vec (Vec L))) (start : S) (marks : List (Vec (Vec Bool))) : Type 0 where
  -- a line that is told as noted is the newest one of a course of the part, in which the machine notes it
  pub noted : (b t k : ℕ) → IsTold marks b t k → (course : List (List Turn)) × IsBegun blocks course × IsOfPart part blocks course × EndsIn b t k course × NotesOn steps notes blocks start course
  -- a line that isn't told as noted can run without a note wherever it is the newest one of a course of the part: there is a run in which those before it lead on and it goes quietly
  pub every : (course : List (List Turn)) → IsBegun blocks course → IsOfPart part blocks course → (b t k : ℕ) → EndsIn b t k course → (IsTold marks b t k → ⊥) → QuietsOn steps quiet blocks start course
  -- each line of each block is told as noted or not
  pub shape : (length marks ≡ length blocks) × ((b : ℕ) → HasShape (block blocks b) (block marks b))
