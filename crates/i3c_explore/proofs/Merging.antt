-- The nodes that jobs found, which are merged by what is known of them.
use Rattle.std.proofs.Common.{◌≡◌, ◌∙◌, ◌<◌, ◌++◌, ◌∷◌, [], ℕ, suc, List, Ok, Err, Option, Result, IfOk, IfSome, None, Some, ap, arith, get_or, inl, inr, length, refl, subst, sym}
use Rattle.std.specs.Global.{Vec}
use Rattle.std.specs.List.{Contains, slice_get}
use Rattle.std.proofs.lemmas.Bool.Decides.{eqb_tells}
use Rattle.std.proofs.lemmas.List.{append-nil, append_assoc}
use Rattle.std.proofs.lemmas.List.Elements.{Contains-append_cases}
use Rattle.std.proofs.lemmas.Option.{same_Some}
use Rattle.i3c_explore.specs.declared.layer.Layer.{Layer}
use Rattle.i3c_explore.specs.declared.node.Node.{Node}
use Rattle.i3c_explore.specs.declared.stop.Stop.{Stop}
use Rattle.i3c_explore.specs.declared.twin_pair.TwinPair.{TwinPair}
use Rattle.i3c_explore.specs.Layers.{ArePut, IsAlikeAt, IsPut}
use Rattle.i3c_explore.specs.Jobs.{AreJoined, AreNodesOf}
use Rattle.i3c_explore.specs.Moves.{AreMoved}
use Rattle.i3c_explore.specs.Twins.{AllTwins, AreFound, AreTwins}
use Rattle.i3c_explore.proofs.Joining.{put_more}
use Rattle.i3c_explore.proofs.Lists.{contains_get, get_before_push, get_contains, get_push, get_set_other, push_cases}
use Rattle.i3c_explore.proofs.Putting.{more_orders}

pub nodes_more : {S : Type 0} (made : List (Result (Layer S) Stop)) (layer : Layer S) (nodes new : List (Node S)) → AreNodesOf made nodes → new ≡ nodes ++ layer.nodes.items → AreNodesOf (made ++ Ok layer ∷ []) new
nodes_more {S} [] layer nodes new none is = ([], is ∙ ap (λ (l : List (Node S)). l ++ layer.nodes.items) none ∙ sym (append-nil layer.nodes.items), refl)
nodes_more {S} (Ok first ∷ made) layer nodes new (later, before, rest) is =
    (later ++ layer.nodes.items, is ∙ ap (λ (l : List (Node S)). l ++ layer.nodes.items) before ∙ append_assoc first.nodes.items later layer.nodes.items, nodes_more made layer later (later ++ layer.nodes.items) rest refl)
nodes_more (Err stop ∷ made) layer nodes new never is = absurd never

-- nodes that are put one after another are put in two parts
put_parts : {S : Type 0} (old one other new : List (Node S)) → ArePut old (one ++ other) new → (mid : List (Node S)) × ArePut old one mid × ArePut mid other new
put_parts old [] other new put = (old, refl, put)
put_parts old (n ∷ one) other new (next, first, rest) = let (mid, front, back) = put_parts next one other new rest in (mid, (next, first, front), back)

-- the nodes of all layers, put one after another, are those layers joined
joined_of_all : {S : Type 0} (made : List (Result (Layer S) Stop)) (nodes old new : List (Node S)) → AreNodesOf made nodes → ArePut old nodes new → AreJoined old made new
joined_of_all {S} [] nodes old new none put = subst (λ (l : List (Node S)). ArePut old l new) none put
joined_of_all {S} (Ok layer ∷ made) nodes old new (later, is, rest) put =
    let (mid, front, back) = put_parts old layer.nodes.items later new (subst (λ (l : List (Node S)). ArePut old l new) is put) in (mid, front, joined_of_all made later mid new rest back)
joined_of_all (Err stop ∷ made) nodes old new never put = absurd never

-- so a layer with the nodes that were put, in whatever order, has those of all layers
pub joined_in_order : {S : Type 0} (made : List (Result (Layer S) Stop)) (nodes : List (Node S)) (result : Result (Layer S) Stop) → AreNodesOf made nodes
    → IfOk result (λ (both : Layer S). (put : List (Node S)) × ArePut [] nodes put × AreMoved put both.nodes.items)
    → IfOk result (λ (both : Layer S). (joined : List (Node S)) × AreJoined [] made joined × AreMoved joined both.nodes.items)
joined_in_order made nodes (Ok both) are (put, is, moved) = (put, joined_of_all made nodes [] put are is, moved)
joined_in_order made nodes (Err stop) are done = tt

-- what is known of a place stays known where a node is put
pub alike_kept : {S : Type 0} (old new : List (Node S)) (node : Node S) → IsPut old node new → (place : ℕ) (places : List ℕ) (state : S) → IsAlikeAt old place places state → IsAlikeAt new place places state
alike_kept {S} old new node put place places state (held, found, at, is) = elim put [
  | inl pushed ↦ (held, ap (λ l. slice_get l place) pushed ∙ get_before_push old node held place found, at, is)
  | inr merged ↦ elim (eqb_tells place merged.index) [
    | inl (_, same) ↦ (
        let here : held ≡ merged.held = same_Some held merged.held (sym found ∙ ap (λ j. slice_get old j) same ∙ merged.found) in (
          record merged.held { orders = merged.total },
          ap (λ j. slice_get new j) same ∙ more_orders old new node merged,
          ap (λ (m : Node S). m.places.items) (sym here) ∙ at,
          ap (λ (m : Node S). m.state) (sym here) ∙ is,
        )
        )
    | inr (_, other) ↦ (held, ap (λ l. slice_get l place) merged.is ∙ get_set_other old merged.index place (record merged.held { orders = merged.total }) other ∙ found, at, is)
  ]
]

-- a node behind the others is there
pub pushed_at : {S : Type 0} (old new : List (Node S)) (node : Node S) (place : ℕ) → new ≡ old ++ node ∷ [] → place ≡ length old → IsAlikeAt new place node.places.items node.state
pushed_at old new node place pushed last = (node, ap (λ l. slice_get l place) pushed ∙ ap (λ k. slice_get (old ++ node ∷ []) k) last ∙ get_push old node, refl, refl)

-- nodes of a list were put, one after another from its first one, and each went to a place where one is like it
pub record AreMerged {S : Type 0} (all nodes layer : List (Node S)) (places : List ℕ) : Type 0 where
  pub put : ArePut [] nodes layer
  pub sized : length places ≡ length nodes
  pub front : (k : ℕ) (n : Node S) → slice_get nodes k ≡ Some n → slice_get all k ≡ Some n
  pub each : (k place : ℕ) → slice_get places k ≡ Some place → (n : Node S) × (slice_get nodes k ≡ Some n) × IsAlikeAt layer place n.places.items n.state

pub merged_none : {S : Type 0} (all layer : List (Node S)) (places : List ℕ) → layer ≡ [] → places ≡ [] → AreMerged all [] layer places
merged_none all layer places none nowhere = record {
  put = none;
  sized = ap length nowhere;
  front = λ k n found. cc;
  each = λ k place found. let e = sym found ∙ ap (λ l. slice_get l k) nowhere in cc;
}

length_more : {A : Type 0} (xs : List A) (x : A) → length (xs ++ x ∷ []) ≡ suc (length xs)
length_more [] x = refl
length_more (y ∷ xs) x = ap suc (length_more xs x)

pub merged_more : {S : Type 0} (all nodes layer new : List (Node S)) (places more : List ℕ) (node : Node S) (place : ℕ)
    → AreMerged all nodes layer places → slice_get all (length nodes) ≡ Some node → IsPut layer node new → IsAlikeAt new place node.places.items node.state → more ≡ places ++ place ∷ [] → AreMerged all (nodes ++ node ∷ []) new more
merged_more {S} all nodes layer new places more node place was next put here pushed = record {
  put = put_more [] layer new nodes node was.put put;
  sized = ap length pushed ∙ length_more places place ∙ ap suc was.sized ∙ sym (length_more nodes node);
  front = λ k n found. elim (push_cases nodes node n k found) [
    | inl before ↦ was.front k n before
    | inr (last, same) ↦ ap (λ j. slice_get all j) last ∙ next ∙ ap Some (sym same)
  ];
  each = λ k at found. elim (push_cases places place at k (sym (ap (λ l. slice_get l k) pushed) ∙ found)) [
    | inl before ↦ (let (n, is, alike) = was.each k at before in (n, get_before_push nodes node n k is, alike_kept layer new node put at n.places.items n.state alike))
    | inr (last, same) ↦ (
      node,
      ap (λ j. slice_get (nodes ++ node ∷ []) j) (last ∙ was.sized) ∙ get_push nodes node,
      subst (λ j. IsAlikeAt new j node.places.items node.state) (sym same) here,
    )
  ];
}

-- the place of a node's twin is one where a node is like it
pub twin_placed : {S : Type 0} (all nodes layer : List (Node S)) (places : List ℕ) (node : Node S) (before later place : ℕ)
    → AreMerged all nodes layer places → slice_get all (length nodes) ≡ Some node → AreTwins all before later → later ≡ length places → slice_get places before ≡ Some place → IsAlikeAt layer place node.places.items node.state
twin_placed {S} all nodes layer places node before later place was next twins last found =
    let (n, is, (held, there, at, state)) = was.each before place found in
    let first : n ≡ twins.one = same_Some n twins.one (sym (was.front before n is) ∙ twins.first) in
    let second : node ≡ twins.other = same_Some node twins.other (sym next ∙ ap (λ j. slice_get all j) (sym (last ∙ was.sized)) ∙ twins.second) in (
      held,
      there,
      at ∙ ap (λ (m : Node S). m.places.items) first ∙ twins.places ∙ ap (λ (m : Node S). m.places.items) (sym second),
      state ∙ ap (λ (m : Node S). m.state) first ∙ twins.state ∙ ap (λ (m : Node S). m.state) (sym second),
    )

-- and so it is for each place that is found
pub placed_before : {S : Type 0} (all nodes layer : List (Node S)) (places : List ℕ) (node : Node S) (twins : List TwinPair) (place : Option ℕ)
    → AreMerged all nodes layer places → slice_get all (length nodes) ≡ Some node → AllTwins all twins
    → IfSome place (λ p. (twin : TwinPair) × Contains twins twin × (twin.later ≡ length places) × (slice_get places twin.before ≡ Some p)) → IfSome place (λ p. IsAlikeAt layer p node.places.items node.state)
placed_before all nodes layer places node twins None was next are before = tt
placed_before all nodes layer places node twins (Some place) was next are (twin, at, last, found) = twin_placed all nodes layer places node twin.before twin.later place was next (are twin at) last found

pub found_more : {E : Type 0} (found : List (Result (Vec TwinPair) E)) (twins : Vec TwinPair) (all new : List TwinPair) → AreFound found all → new ≡ all ++ twins.items → AreFound (found ++ Ok twins ∷ []) new
found_more [] twins all new none is = ([], is ∙ ap (λ (l : List TwinPair). l ++ twins.items) none ∙ sym (append-nil twins.items), refl)
found_more (Ok first ∷ found) twins all new (later, before, rest) is =
    (later ++ twins.items, is ∙ ap (λ (l : List TwinPair). l ++ twins.items) before ∙ append_assoc first.items later twins.items, found_more found twins later (later ++ twins.items) rest refl)
found_more (Err why ∷ found) twins all new never is = absurd never

-- what jobs found are twins, if those of each one are
pub found_twins : {S E : Type 0} (nodes : List (Node S)) (found : List (Result (Vec TwinPair) E)) (all : List TwinPair) → AreFound found all
    → ((i : ℕ) (one : Result (Vec TwinPair) E) → i < length found → IfOk (get_or found i one) (λ (twins : Vec TwinPair). AllTwins nodes twins.items)) → AllTwins nodes all
found_twins nodes [] all none each twin at = let (k, lt, is) = subst (λ l. Contains l twin) none at in absurd (omega arith)
found_twins nodes (Ok twins ∷ found) all (later, is, rest) each twin at = elim (Contains-append_cases twins.items later twin (subst (λ l. Contains l twin) is at)) [
  | inl here ↦ each 0 (Ok twins) (omega arith) twin here
  | inr there ↦ found_twins nodes found later rest (λ i one lt. each (suc i) one (omega arith)) twin there
]
found_twins nodes (Err why ∷ found) all never each twin at = absurd never

-- one more pair is of twins
pub twins_more : {S : Type 0} (nodes : List (Node S)) (twins new : List TwinPair) (twin : TwinPair) → AllTwins nodes twins → AreTwins nodes twin.before twin.later → new ≡ twins ++ twin ∷ [] → AllTwins nodes new
twins_more {S} nodes twins new twin was here pushed other at =
    let (k, found) = contains_get new other at in elim (push_cases twins twin other k (sym (ap (λ l. slice_get l k) pushed) ∙ found)) [
      | inl before ↦ was other (get_contains twins k other before)
      | inr (_, same) ↦ subst (λ (t : TwinPair). AreTwins nodes t.before t.later) (sym same) here
    ]
