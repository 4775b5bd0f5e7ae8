-- What is in a layer after a node was put there.
use Rattle.std.proofs.Common.{◌≡◌, ◌⊎◌, ◌∙◌, ◌≤◌, ◌+◌, ◌++◌, ◌∷◌, [], ℕ, List, Some, ap, arith, inl, inr, length, length-append, refl, subst, sym}
use Rattle.std.specs.List.{Contains, slice_get}
use Rattle.std.proofs.lemmas.Bool.Decides.{eqb_tells}
use Rattle.std.proofs.lemmas.List.{length-set}
use Rattle.std.proofs.lemmas.Option.{same_Some, slice_get_within}
use Rattle.i3c_explore.specs.declared.node.Node.{Node}
use Rattle.i3c_explore.specs.declared.turn.Turn.{Turn}
use Rattle.i3c_explore.specs.Layers.{Has, IsLike, IsMerged, IsPut, IsPutBehind, Keeps}
use Rattle.i3c_explore.proofs.Lists.{contains_get, get_before_push, get_contains, get_push, get_set_other, get_set_same, push_cases, set_cases}

pub has_moved : {S : Type 0} (layer : List (Node S)) (places here : List ℕ) (state other : S) → places ≡ here → state ≡ other → Has layer places state → Has layer here other
has_moved layer places here state other alike same (n, c, at, is) = (n, c, at ∙ alike, is ∙ same)

-- the node that was merged, with more orders
pub more_orders : {S : Type 0} (old new : List (Node S)) (node : Node S) (merged : IsMerged old node new) → slice_get new merged.index ≡ Some (record merged.held { orders = merged.total })
more_orders old new node merged = ap (λ l. slice_get l merged.index) merged.is ∙ get_set_same old merged.index (record merged.held { orders = merged.total }) (slice_get_within old merged.index merged.held merged.found)

merged_has : {S : Type 0} (old new : List (Node S)) (node : Node S) (merged : IsMerged old node new) → Has new merged.held.places.items merged.held.state
merged_has old new node merged = (record merged.held { orders = merged.total }, get_contains new merged.index (record merged.held { orders = merged.total }) (more_orders old new node merged), refl, refl)

merged_keeps : {S : Type 0} (old new : List (Node S)) (node : Node S) → IsMerged old node new → Keeps old new
merged_keeps {S} old new node merged places state (n, c, at, is) = let (k, found) = contains_get old n c in elim (eqb_tells k merged.index) [
  | inl (_, same) ↦ (
      let here : n ≡ merged.held = same_Some n merged.held (sym found ∙ ap (λ j. slice_get old j) same ∙ merged.found) in
      has_moved new merged.held.places.items places merged.held.state state (ap (λ (m : Node S). m.places.items) (sym here) ∙ at) (ap (λ (m : Node S). m.state) (sym here) ∙ is) (merged_has old new node merged)
      )
  | inr (_, other) ↦ (n, get_contains new k n (ap (λ l. slice_get l k) merged.is ∙ get_set_other old merged.index k (record merged.held { orders = merged.total }) other ∙ found), at, is)
]

merged_from : {S : Type 0} (old new : List (Node S)) (node : Node S) → IsMerged old node new → (n : Node S) → Contains new n → (m : Node S) × Contains old m × IsLike n m
merged_from {S} old new node merged n c =
    let (k, found) = contains_get new n c in
    let lt = slice_get_within old merged.index merged.held merged.found in
    elim (set_cases old merged.index (record merged.held { orders = merged.total }) n k lt (subst (λ l. slice_get l k ≡ Some n) merged.is found)) [
      | inl (was, _) ↦ (n, get_contains old k n was, (refl, refl, refl))
      | inr (_, same) ↦ (merged.held, get_contains old merged.index merged.held merged.found, (ap (λ (m : Node S). m.state) same, ap (λ (m : Node S). m.places.items) same, ap (λ (m : Node S). m.order.items) same))
    ]

pub put_keeps : {S : Type 0} (old new : List (Node S)) (node : Node S) → IsPut old node new → Keeps old new
put_keeps old new node put places state (n, c, at, is) = elim put [
  | inl pushed ↦ (let (k, found) = contains_get old n c in (n, get_contains new k n (ap (λ l. slice_get l k) pushed ∙ get_before_push old node n k found), at, is))
  | inr merged ↦ merged_keeps old new node merged places state (n, c, at, is)
]

pub put_has : {S : Type 0} (old new : List (Node S)) (node : Node S) → IsPut old node new → Has new node.places.items node.state
put_has old new node put = elim put [
  | inl pushed ↦ (node, get_contains new (length old) node (ap (λ l. slice_get l (length old)) pushed ∙ get_push old node), refl, refl)
  | inr merged ↦ has_moved new merged.held.places.items node.places.items merged.held.state node.state merged.places merged.state (merged_has old new node merged)
]

pub put_from : {S : Type 0} (old new : List (Node S)) (node : Node S) → IsPut old node new → (n : Node S) → Contains new n → ((m : Node S) × Contains old m × IsLike n m) ⊎ (n ≡ node)
put_from old new node put n c = elim put [
  | inl pushed ↦ (let (k, found) = contains_get new n c in elim (push_cases old node n k (sym (ap (λ l. slice_get l k) pushed) ∙ found)) [
    | inl was ↦ inl (n, get_contains old k n was, (refl, refl, refl))
    | inr (_, same) ↦ inr same
  ])
  | inr merged ↦ inl (merged_from old new node merged n c)
]

-- one more turn of a node is put into a layer as the node that it leads to
pub behind_put : {S : Type 0} (old new : List (Node S)) (node : Node S) (turn : Turn) (end : S) (put : IsPutBehind old node turn end new) → IsPut old put.made new
behind_put old new node turn end put = elim put.put [
  | inl (_, pushed) ↦ inl pushed
  | inr merged ↦ inr merged
]

-- a node that is new there has the order of that turn
pub behind_from : {S : Type 0} (old new : List (Node S)) (node : Node S) (turn : Turn) (end : S) (put : IsPutBehind old node turn end new) → (n : Node S) → Contains new n
    → ((m : Node S) × Contains old m × IsLike n m) ⊎ ((n ≡ put.made) × (put.made.order.items ≡ node.order.items ++ turn ∷ []))
behind_from old new node turn end put n c = elim put.put [
  | inl (order, pushed) ↦ elim (put_from old new put.made (inl pushed) n c) [
    | inl before ↦ inl before
    | inr same ↦ inr (same, order)
  ]
  | inr merged ↦ inl (merged_from old new put.made merged n c)
]

-- a node that is put is one more at most
pub put_adds : {S : Type 0} (old new : List (Node S)) (node : Node S) → IsPut old node new → length new ≤ length old + 1
put_adds {S} old new node put = elim put [
  | inl pushed ↦ (let e = ap length pushed in omega (arith, length-append old (node ∷ [])))
  | inr merged ↦ (let e = ap length merged.is in omega (arith, length-set old merged.index (record merged.held { orders = merged.total })))
]
