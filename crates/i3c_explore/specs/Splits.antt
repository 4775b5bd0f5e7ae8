-- The orders of a block by their first turns.
use Rattle.std.specs.Prelude.{◌≡◌, ◌<◌, ◌%◌, ℕ, List, [], ◌∷◌, ◌++◌, ◌↔◌}
use Rattle.std.specs.Global.{Vec}
use Rattle.i3c_explore.specs.declared.turn.Turn.{Turn}
use Rattle.i3c_explore.specs.Orders.{IsOrder, Leads, track}

-- the tracks without the first line of track t
pub record IsWithout {L : Type 0} (tracks : List (Vec L)) (t : ℕ) (line : L) (rest : List (Vec L)) : Type 0 where
  pub first : track tracks t ≡ line ∷ track rest t
  pub others : (u : ℕ) → (t ≡ u → ⊥) → track tracks u ≡ track rest u

-- first track t's line runs, and then an order of the rest
abbrev pub after_first : ℕ → ℕ → List Turn → List Turn
after_first t way order = order ++ record { track = t; way = way } ∷ []

-- an order of the rest, after the first line of track t, is an order of the tracks, and each that begins so is one
abbrev pub OrdersSplit : {L : Type 0} → List (Vec L) → Type 0
OrdersSplit {L} tracks = (t : ℕ) (line : L) (rest : List (Vec L)) → IsWithout tracks t line rest → (way : ℕ) (order : List Turn) → IsOrder tracks (after_first t way order) ↔ IsOrder rest order

-- an order that begins with the first line of track t leads on exactly as that line and then the order of the rest
abbrev pub RunsSplit : {S L : Type 0} → (S → L → ℕ → S → Type 0) → List (Vec L) → Type 0
RunsSplit {S} {L} steps tracks = (t : ℕ) (line : L) (rest : List (Vec L)) → IsWithout tracks t line rest → (way : ℕ) (order : List Turn) (start end : S)
    → Leads steps tracks start (after_first t way order) end ↔ ((mid : S) × steps start line way mid × Leads steps rest mid order end)

-- an order belongs to the part of its first turn's track, modulo the number of parts
abbrev pub IsInPart : ℕ → ℕ → List Turn → Type 0
IsInPart part parts order = (t : ℕ) (way : ℕ) (later : List Turn) → order ≡ after_first t way later → t % parts ≡ part

-- each order with a turn is in exactly one part
abbrev pub IsInOnePart : ℕ → List Turn → Type 0
IsInOnePart parts order = (part : ℕ) × (part < parts) × IsInPart part parts order × ((other : ℕ) → IsInPart other parts order → other ≡ part)
