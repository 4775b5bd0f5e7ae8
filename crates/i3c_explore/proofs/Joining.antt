-- What is in a layer after the nodes of another one were put there.
use Rattle.std.proofs.Common.{◌≡◌, ◌⊎◌, ◌∙◌, ◌<◌, ◌++◌, ◌∷◌, [], ℕ, suc, zero, List, ap, arith, inl, inr, length, refl, subst, sym}
use Rattle.std.specs.List.{Contains}
use Rattle.std.proofs.lemmas.List.Elements.{Contains-append_cases, Contains-append_left, Contains-append_right}
use Rattle.std.proofs.lemmas.Option.{same_Some}
use Rattle.i3c_explore.specs.declared.node.Node.{Node}
use Rattle.i3c_explore.specs.Counts.{IsShared}
use Rattle.i3c_explore.specs.Layers.{ArePut, Has, IsLike, IsPut, Keeps}
use Rattle.i3c_explore.specs.Nexts.{AreSuccessors}
use Rattle.i3c_explore.specs.Shares.{IsAdded, IsMeant, IsOwn}
use Rattle.i3c_explore.proofs.Expanding.{like_successor}
use Rattle.i3c_explore.proofs.Putting.{has_moved, put_from, put_has, put_keeps}
use Rattle.i3c_explore.proofs.Sharing.{added_both, added_none, contains_here, contains_there, put_added}

pub put_more : {S : Type 0} (old mid new : List (Node S)) (nodes : List (Node S)) (node : Node S) → ArePut old nodes mid → IsPut mid node new → ArePut old (nodes ++ node ∷ []) new
put_more {S} old mid new [] node same put = (new, subst (λ (l : List (Node S)). IsPut l node new) same put, refl)
put_more old mid new (n ∷ nodes) node (next, first, rest) put = (next, first, put_more next mid new nodes node rest put)

pub all_keeps : {S : Type 0} (old new nodes : List (Node S)) → ArePut old nodes new → Keeps old new
all_keeps {S} old new [] same places state has = subst (λ (l : List (Node S)). Has l places state) (sym same) has
all_keeps old new (n ∷ nodes) (mid, put, rest) places state has = all_keeps mid new nodes rest places state (put_keeps old mid n put places state has)

pub all_has : {S : Type 0} (old new nodes : List (Node S)) → ArePut old nodes new → Keeps nodes new
all_has old new [] same places state (m, (k, lt, is), at, alike) = absurd (omega arith)
all_has {S} old new (n ∷ nodes) (mid, put, rest) places state (m, (zero, lt, is), at, alike) =
    all_keeps mid new nodes rest places state
    (has_moved mid n.places.items places n.state state (ap (λ (x : Node S). x.places.items) is ∙ at) (ap (λ (x : Node S). x.state) is ∙ alike) (put_has old mid n put))
all_has old new (n ∷ nodes) (mid, put, rest) places state (m, (suc k, lt, is), at, alike) = all_has mid new nodes rest places state (m, (k, omega arith, is), at, alike)

pub all_from : {S : Type 0} (old new nodes : List (Node S)) → ArePut old nodes new → (n : Node S) → Contains new n → (m : Node S) × (Contains old m ⊎ Contains nodes m) × IsLike n m
all_from {S} old new [] same n c = (n, inl (subst (λ (l : List (Node S)). Contains l n) same c), (refl, refl, refl))
all_from {S} old new (x ∷ nodes) (mid, put, rest) n c =
    let (m, at, (state, places, order)) = all_from mid new nodes rest n c in elim at [
      | inl before ↦ elim (put_from old mid x put m before) [
        | inl (o, d, (state', places', order')) ↦ (o, inl d, (state ∙ state', places ∙ places', order ∙ order'))
        | inr same ↦ (x, inr (contains_here x nodes), (state ∙ ap (λ (y : Node S). y.state) same, places ∙ ap (λ (y : Node S). y.places.items) same, order ∙ ap (λ (y : Node S). y.order.items) same))
      ]
      | inr there ↦ (m, inr (contains_there x m nodes there), (state, places, order))
    ]

pub successors_both : {S L : Type 0} (steps : S → L → ℕ → S → Type 0) (lines : ℕ → List L) (layer one other both : List (Node S))
    → ArePut one other both → AreSuccessors steps lines layer one → AreSuccessors steps lines layer other → AreSuccessors steps lines layer both
successors_both steps lines layer one other both put front back n c =
    let (m, at, like) = all_from one both other put n c in elim at [
      | inl before ↦ (let (old, d, made) = front m before in (old, d, like_successor steps lines old n m like made))
      | inr there ↦ (let (old, d, made) = back m there in (old, d, like_successor steps lines old n m like made))
    ]

-- the shares of nodes, one after another
abbrev pub shares_of : {S O : Type 0} → (ℕ → List O) → List (Node S) → List O
shares_of share [] = []
shares_of share (n ∷ nodes) = share 0 ++ shares_of (λ k. share (suc k)) nodes

pub in_some : {S O : Type 0} (share : ℕ → List O) (nodes : List (Node S)) (o : O) → Contains (shares_of share nodes) o → (k : ℕ) × Contains (share k) o
in_some share [] o (k, lt, is) = absurd (omega arith)
in_some share (n ∷ nodes) o c = elim (Contains-append_cases (share 0) (shares_of (λ k. share (suc k)) nodes) o c) [
  | inl here ↦ (0, here)
  | inr there ↦ (let (k, d) = in_some (λ k. share (suc k)) nodes o there in (suc k, d))
]

pub in_all : {S O : Type 0} (share : ℕ → List O) (nodes : List (Node S)) (k : ℕ) (o : O) → k < length nodes → Contains (share k) o → Contains (shares_of share nodes) o
in_all share [] k o lt c = absurd (omega arith)
in_all share (n ∷ nodes) zero o lt c = Contains-append_left (share 0) (shares_of (λ k. share (suc k)) nodes) o c
in_all share (n ∷ nodes) (suc k) o lt c = Contains-append_right (share 0) (shares_of (λ k. share (suc k)) nodes) o (in_all (λ k. share (suc k)) nodes k o (omega arith) c)

shared_rest : {S O : Type 0} (node : Node S) (nodes : List (Node S)) (share : ℕ → List O) → IsShared (node ∷ nodes) share → IsShared nodes (λ k. share (suc k))
shared_rest node nodes share shared = record {
  number = λ k n found. shared.number (suc k) n found;
  distinct = λ k. shared.distinct (suc k);
  apart = λ i j o c d. let same = shared.apart (suc i) (suc j) o c d in omega arith;
  within = λ k o c. let lt = shared.within (suc k) o c in omega arith;
}

-- the nodes bring their orders
pub all_added : {S O : Type 0} (Fits : Node S → O → Type 0) (alike : (n m : Node S) (o : O) → n.state ≡ m.state → n.places.items ≡ m.places.items → Fits m o → Fits n o)
    (old new nodes : List (Node S)) (share : ℕ → List O) → ArePut old nodes new → IsShared nodes share → IsMeant Fits nodes share → IsAdded Fits old new (shares_of share nodes)
all_added {S} {O} Fits alike old new [] share same shared meant =
    let none : List O = [] in subst (λ (l : List (Node S)). IsAdded Fits old l none) (sym same) (added_none Fits old)
all_added {S} {O} Fits alike old new (n ∷ nodes) share (mid, put, rest) shared meant =
    let own : IsOwn Fits n (share 0) = (shared.number 0 n refl, shared.distinct 0, λ o c. let (m, is, fit) = meant 0 o c in subst (λ (x : Node S). Fits x o) (same_Some m n (sym is)) fit) in
    let first = put_added Fits alike old mid n (share 0) put own in
    let then_ = all_added Fits alike mid new nodes (λ k. share (suc k)) rest (shared_rest n nodes share shared) (λ k o c. meant (suc k) o c) in
    added_both Fits old mid new (share 0) (shares_of (λ k. share (suc k)) nodes) first then_
    (λ o c d. let (k, e) = in_some (λ k. share (suc k)) nodes o d in let same = shared.apart 0 (suc k) o c e in omega arith)
