-- Orders of tracks, and where they lead.
use Rattle.std.specs.Prelude.{◌≡◌, ◌≤◌, ◌==◌, ℕ, List, [], ◌∷◌, length, suc, if◌then◌else◌, Option, None, Some, slice_get}
use Rattle.std.specs.Global.{Vec}
use Rattle.i3c_explore.specs.declared.turn.Turn.{Turn}

-- An order is a list of turns, the newest first. A turn names the track whose next line runs, and the way it goes.
-- how many turns of an order are of track t
abbrev pub turns_of : ℕ → List Turn → ℕ
turns_of t [] = 0
turns_of t (turn ∷ before) = if turn.track == t then suc (turns_of t before) else turns_of t before

-- the lines of a track; a track that isn't there has none
abbrev pub lines_in : {L : Type 0} → Option (Vec L) → List L
lines_in None = []
lines_in (Some lines) = lines.items

abbrev pub track : {L : Type 0} → List (Vec L) → ℕ → List L
track tracks t = lines_in (slice_get tracks t)

-- an order: each line of each track has its turn
abbrev pub IsOrder : {L : Type 0} → List (Vec L) → List Turn → Type 0
IsOrder tracks order = (t : ℕ) → turns_of t order ≡ length (track tracks t)

-- the beginning of an order: no track has more turns than lines
abbrev pub IsPrefix : {L : Type 0} → List (Vec L) → List Turn → Type 0
IsPrefix tracks order = (t : ℕ) → turns_of t order ≤ length (track tracks t)

-- the line of track t that runs next, after these turns
abbrev pub IsNext : {L : Type 0} → List (Vec L) → List Turn → ℕ → L → Type 0
IsNext tracks before t line = slice_get (track tracks t) (turns_of t before) ≡ Some line

-- the lines, run in this order, lead from start to end, where `steps` says what a line can lead to
abbrev pub Leads : {S L : Type 0} → (S → L → ℕ → S → Type 0) → List (Vec L) → S → List Turn → S → Type 0
Leads steps tracks start [] end = end ≡ start
Leads {S} {L} steps tracks start (turn ∷ before) end = (mid : S) × (line : L) × Leads steps tracks start before mid × IsNext tracks before turn.track line × steps mid line turn.way end

-- the newest line of this order breaks an expectation, and those before it break none
abbrev pub Breaks : {S L : Type 0} → (S → L → ℕ → S → Type 0) → (S → L → ℕ → Type 0) → List (Vec L) → S → List Turn → Type 0
Breaks steps breaks tracks start [] = ⊥
Breaks {S} {L} steps breaks tracks start (turn ∷ before) = (mid : S) × (line : L) × Leads steps tracks start before mid × IsNext tracks before turn.track line × breaks mid line turn.way

-- a state, a line and a way determine what they lead to
abbrev pub IsDetermined : {S L : Type 0} → (S → L → ℕ → S → Type 0) → Type 0
IsDetermined {S} {L} steps = (old one other : S) (line : L) (way : ℕ) → steps old line way one → steps old line way other → one ≡ other

-- what breaks an expectation leads nowhere
abbrev pub IsExclusive : {S L : Type 0} → (S → L → ℕ → S → Type 0) → (S → L → ℕ → Type 0) → Type 0
IsExclusive {S} {L} steps breaks = (old new : S) (line : L) (way : ℕ) → breaks old line way → steps old line way new → ⊥
