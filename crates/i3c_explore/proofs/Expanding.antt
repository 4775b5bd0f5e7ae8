-- What a layer has of the nodes before it, as nodes are added.
use Rattle.std.proofs.Common.{◌≡◌, ◌∙◌, ℕ, List, Some, arith, get_or, inl, inr, length, refl, subst, sym}
use Rattle.std.specs.List.{Contains, slice_get}
use Rattle.std.proofs.lemmas.Option.{get_or_from_slice_get, slice_get_read}
use Rattle.i3c_explore.specs.declared.node.Node.{Node}
use Rattle.i3c_explore.specs.Layers.{AreFrom, IsExpanded, IsLike, IsSuccessor, Keeps}
use Rattle.i3c_explore.specs.Nexts.{AreExpanded}

pub expanded_kept : {S L : Type 0} (steps : S → L → ℕ → S → Type 0) (lines : ℕ → List L) (count : ℕ) (node : Node S) (old new : List (Node S))
    → Keeps old new → IsExpanded steps lines count node old → IsExpanded steps lines count node new
expanded_kept steps lines count node old new keeps expanded t lt line next way = let (state, step, has) = expanded t lt line next way in (state, step, keeps _ state has)

pub keeps_both : {S : Type 0} (old mid new : List (Node S)) → Keeps old mid → Keeps mid new → Keeps old new
keeps_both old mid new first second places state has = second places state (first places state has)

pub like_successor : {S L : Type 0} (steps : S → L → ℕ → S → Type 0) (lines : ℕ → List L) (node n m : Node S) → IsLike n m → IsSuccessor steps lines node m → IsSuccessor steps lines node n
like_successor {S} steps lines node n m (state, places, order) made = record {
  turn = made.turn;
  line = made.line;
  next = made.next;
  step = subst (λ (s : S). steps node.state made.line made.turn.way s) (sym state) made.step;
  places = places ∙ made.places;
  order = order ∙ made.order;
}

pub from_same : {S L : Type 0} (steps : S → L → ℕ → S → Type 0) (lines : ℕ → List L) (node : Node S) (layer : List (Node S)) → AreFrom steps lines node layer layer
from_same steps lines node layer n c = inl (n, c, (refl, refl, refl))

pub from_more : {S L : Type 0} (steps : S → L → ℕ → S → Type 0) (lines : ℕ → List L) (node : Node S) (old mid new : List (Node S))
    → AreFrom steps lines node old mid → AreFrom steps lines node mid new → AreFrom steps lines node old new
from_more steps lines node old mid new first second n is = elim (second n is) [
  | inl (m, c, (state, places, order)) ↦ elim (first m c) [
    | inl (o, d, (state', places', order')) ↦ inl (o, d, (state ∙ state', places ∙ places', order ∙ order'))
    | inr made ↦ inr (like_successor steps lines node n m (state, places, order) made)
  ]
  | inr made ↦ inr made
]

pub passed_kept : {S L : Type 0} (steps : S → L → ℕ → S → Type 0) (ran : ℕ → ℕ → List L) (count : ℕ) (layer : List (Node S)) (first last : ℕ) (old new : List (Node S))
    → Keeps old new → AreExpanded steps ran count layer first last old → AreExpanded steps ran count layer first last new
passed_kept steps ran count layer first last old new keeps passed k lt le n is = expanded_kept steps (ran k) count n old new keeps (passed k lt le n is)

pub passed_here : {S L : Type 0} (steps : S → L → ℕ → S → Type 0) (lines : ℕ → List L) (count : ℕ) (layer : List (Node S)) (index : ℕ) (node : Node S) (next : List (Node S))
    → node ≡ get_or layer index node → IsExpanded steps lines count node next
    → (n : Node S) → slice_get layer index ≡ Some n → IsExpanded steps lines count n next
passed_here {S} steps lines count layer index node next is expanded n found =
    subst (λ (m : Node S). IsExpanded steps lines count m next) (is ∙ get_or_from_slice_get layer index n node found) expanded

pub all_passed : {S L : Type 0} (steps : S → L → ℕ → S → Type 0) (lines : ℕ → List L) (count : ℕ) (layer : List (Node S)) (next : List (Node S))
    → AreExpanded steps (λ _. lines) count layer 0 (length layer) next → (n : Node S) → Contains layer n → IsExpanded steps lines count n next
all_passed steps lines count layer next passed n (k, lt, is) = passed k lt (omega arith) n (slice_get_read layer (length layer) k n refl lt (sym is))
