-- What is left where a program's run is over.
use Rattle.std.specs.Prelude.{◌≡◌, ◌⊎◌, ◌++◌, ℕ, List, reverse}
use Rattle.std.specs.Global.{Vec}
use Rattle.i3c_explore.specs.declared.limits.Limits.{Limits}
use Rattle.i3c_explore.specs.declared.node.Node.{Node}
use Rattle.i3c_explore.specs.declared.stop.Stop.{Stop}
use Rattle.i3c_explore.specs.declared.turn.Turn.{Turn}
use Rattle.i3c_explore.specs.Blocks.{IsShortestInPart, IsWhole, LeadsOn}
use Rattle.i3c_explore.specs.Layers.{IsNextAt}
use Rattle.i3c_explore.specs.Orders.{track}
use Rattle.i3c_explore.specs.Parts.{whole}
use Rattle.i3c_explore.specs.Reached.{AreTaken, BreaksFrom, ExceedsBehind, LeadsFrom, places_after}
use Rattle.i3c_explore.specs.Stops.{ExceedsLimits}
use Rattle.i3c_every.specs.Meeting.{IsBegunAt}
use Rattle.i3c_every.specs.declared.met.Met.{Met}

-- no line is left in the tracks at these places
abbrev pub AreDone : {L : Type 0} → List (Vec L) → List ℕ → Type 0
AreDone {L} tracks places = (t : ℕ) (line : L) → IsNextAt (track tracks) places t line → ⊥

-- an order of all lines that are left in the tracks
abbrev pub AreAllTaken : {L : Type 0} → List (Vec L) → List ℕ → List Turn → Type 0
AreAllTaken tracks places order = AreTaken tracks places order × AreDone tracks (places_after places order)

-- from a state each order of these blocks leads on
abbrev pub AllLeadOn : {S L : Type 0} → (S → L → ℕ → S → Type 0) → List (Vec (Vec L)) → S → Type 0
AllLeadOn {S} steps blocks start = (course : List (List Turn)) → IsWhole blocks course → (end : S) × LeadsOn steps blocks start course end

-- each order of all lines that are left in the tracks leads to a state, and from there each order of the blocks behind leads on
abbrev pub ClosesAll : {S L : Type 0} → (S → L → ℕ → S → Type 0) → List (Vec L) → List (Vec (Vec L)) → Met S → Type 0
ClosesAll {S} steps tracks rest old = (order : List Turn) → AreAllTaken tracks old.places.items order → (mid : S) × LeadsFrom steps tracks old.places.items old.state order mid × AllLeadOn steps rest mid

-- an order of all lines that are left in the tracks leads to this state
abbrev pub LeavesAt : {S L : Type 0} → (S → L → ℕ → S → Type 0) → List (Vec L) → Met S → List Turn → S → Type 0
LeavesAt steps tracks old order mid = AreAllTaken tracks old.places.items order × LeadsFrom steps tracks old.places.items old.state order mid

-- an order of what is left breaks an expectation: in the tracks, or in the blocks behind all that was left in these
abbrev pub BreaksClosing : {S L : Type 0} → (S → L → ℕ → S → Type 0) → (S → L → ℕ → Type 0) → List (Vec L) → List (Vec (Vec L)) → Met S → List Turn → Type 0
BreaksClosing {S} steps breaks tracks rest old order =
    ((start : Node S) × IsBegunAt old start × BreaksFrom steps breaks tracks start order)
    ⊎ ((taken : List Turn) × (mid : S) × (later : List Turn) × LeavesAt steps tracks old taken mid × IsShortestInPart steps breaks whole rest mid later × (order ≡ reverse taken ++ later))

-- a limit is exceeded there
abbrev pub ExceedsClosing : {S L : Type 0} → (S → L → ℕ → S → Type 0) → (S → L → ℕ) → List (Vec L) → List (Vec (Vec L)) → Limits → Met S → Type 0
ExceedsClosing {S} steps last tracks rest limits old =
    ((start : Node S) × IsBegunAt old start × ExceedsBehind steps last tracks start limits) ⊎ ((taken : List Turn) × (mid : S) × LeavesAt steps tracks old taken mid × ExceedsLimits steps last whole rest mid limits)

-- why not all that is left was found to lead on
abbrev pub StopsClosing : {S L : Type 0} → (S → L → ℕ → S → Type 0) → (S → L → ℕ) → (S → L → ℕ → Type 0) → List (Vec L) → List (Vec (Vec L)) → Limits → Met S → Stop → Type 0
StopsClosing steps last breaks tracks rest limits old (Stop.Breaks order) = BreaksClosing steps breaks tracks rest old order.items
StopsClosing steps last breaks tracks rest limits old Stop.Most = ExceedsClosing steps last tracks rest limits old
StopsClosing steps last breaks tracks rest limits old Stop.Memory = Unit {0}

-- why an exploration of these blocks stopped that began at a node at which no line is left: what breaks there comes behind the node's own order
abbrev pub StopsThere : {S L : Type 0} → (S → L → ℕ → S → Type 0) → (S → L → ℕ) → (S → L → ℕ → Type 0) → List (Vec L) → List (Vec (Vec L)) → Limits → Node S → Stop → Type 0
StopsThere steps last breaks tracks rest limits node (Stop.Breaks order) = AreDone tracks node.places.items × ((later : List Turn) × (order.items ≡ node.order.items ++ later) × IsShortestInPart steps breaks whole rest node.state later)
StopsThere steps last breaks tracks rest limits node Stop.Most = AreDone tracks node.places.items × ExceedsLimits steps last whole rest node.state limits
StopsThere steps last breaks tracks rest limits node Stop.Memory = Unit {0}

-- the same told from where the node's own order begins, unless there was no memory for it
abbrev pub IsBehind : List Turn → Stop → Stop → Type 0
IsBehind first (Stop.Breaks order) (Stop.Breaks all) = all.items ≡ first ++ order.items
IsBehind first (Stop.Breaks order) told = told ≡ Stop.Memory
IsBehind first Stop.Most told = told ≡ Stop.Most
IsBehind first Stop.Memory told = told ≡ Stop.Memory
