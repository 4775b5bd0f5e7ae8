-- The line that runs next at a node's places.
use Rattle.std.proofs.Common.{◌≡◌, ◌∙◌, ◌<◌, ℕ, List, [], ◌∷◌, ◌++◌, Option, ap, get_or, length, subst, sym}
use Rattle.std.specs.List.{slice_get}
use Rattle.std.proofs.lemmas.Grind.{get_or_default_zero}
use Rattle.i3c_explore.specs.declared.node.Node.{Node}
use Rattle.i3c_explore.specs.declared.turn.Turn.{Turn}
use Rattle.i3c_explore.specs.Layers.{IsNextAt, IsSuccessor, advanced}

-- what a track has at a node's place runs next
pub next_at : {L : Type 0} (lines : ℕ → List L) (places : List ℕ) (t p : ℕ) (found : Option L) → t < length places → p ≡ get_or places t p → slice_get (lines t) p ≡ found → slice_get (lines t) (get_or places t 0) ≡ found
next_at lines places t p found here at is = ap (λ (k : ℕ). slice_get (lines t) k) (sym (at ∙ get_or_default_zero places t p here)) ∙ is

-- and no other line does
pub next_once : {L : Type 0} (lines : ℕ → List L) (places : List ℕ) (t : ℕ) (x y : L) → IsNextAt lines places t x → IsNextAt lines places t y → x ≡ y
next_once lines places t x y one other = cc

-- the node that a line leads to
pub successor_of : {S L : Type 0} (steps : S → L → ℕ → S → Type 0) (lines : ℕ → List L) (old new : Node S) (turn : Turn) (x : L) (state : S)
    → IsNextAt lines old.places.items turn.track x → steps old.state x turn.way state
    → new.state ≡ state → new.places.items ≡ advanced turn.track old.places.items → new.order.items ≡ old.order.items ++ turn ∷ [] → IsSuccessor steps lines old new
successor_of {S} steps lines old new turn x state next step same places order = record {
  turn = turn;
  line = x;
  next = next;
  step = subst (λ (s : S). steps old.state x turn.way s) (sym same) step;
  places = places;
  order = order;
}
