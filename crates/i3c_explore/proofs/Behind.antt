-- Layer by layer, all that is left in the tracks is reached.
use Rattle.std.proofs.Common.{◌≡◌, ◌⊎◌, ◌∙◌, ◌<◌, ◌≤◌, ◌+◌, ℕ, zero, suc, List, [], ◌∷◌, ◌++◌, Ok, Err, Some, ap, append-nil, arith, get_or, inl, inr, length, refl, reverse, subst, sym}
use Rattle.std.specs.Global.{Vec}
use Rattle.std.specs.List.{Contains, slice_get}
use Rattle.std.proofs.lemmas.Bool.Decides.{eqb_tells, leb_tells}
use Rattle.std.proofs.lemmas.List.{length-set}
use Rattle.std.proofs.lemmas.List.Elements.{Contains-append_cases, Contains-append_left, Contains-append_right}
use Rattle.i3c_explore.specs.declared.layer.Layer.{Layer}
use Rattle.i3c_explore.specs.declared.limits.Limits.{Limits}
use Rattle.i3c_explore.specs.declared.node.Node.{Node}
use Rattle.i3c_explore.specs.declared.stop.Stop.{Stop}
use Rattle.i3c_explore.specs.declared.turn.Turn.{Turn}
use Rattle.i3c_explore.specs.Explorations.{MakesNext}
use Rattle.i3c_explore.specs.Layers.{IsNextAt, advanced}
use Rattle.i3c_explore.specs.Orders.{track}
use Rattle.i3c_explore.specs.Parts.{opening, whole}
use Rattle.i3c_explore.specs.Runs.{runs_behind}
use Rattle.i3c_explore.specs.Reached.{AreLayersBehind, AreReached, AreTaken, LeadsToNode, Reaches, runs_of_all}
use Rattle.i3c_explore.proofs.Covering.{order_more}
use Rattle.i3c_explore.proofs.Lists.{contains_get}
use Rattle.i3c_explore.proofs.Marking.{within_tracks}
use Rattle.i3c_explore.proofs.Opening.{opened, opening_has, whole_begins}
use Rattle.std.proofs.lemmas.Option.{slice_get_within}

-- the one element of a list
one_there : {X : Type 0} (x y : X) (xs : List X) → xs ≡ x ∷ [] → Contains xs y → y ≡ x
one_there x y xs is at = go (subst (λ l. Contains l y) is at)
  where
    go : Contains (x ∷ []) y → y ≡ x
    go (zero, few, same) = sym same
    go (suc k, few, same) = absurd (omega (arith, few))

here : {X : Type 0} (x : X) (xs : List X) → xs ≡ x ∷ [] → Contains xs x
here x xs is = subst (λ l. Contains l x) (sym is) (0, omega (arith), refl)

none_there : {X : Type 0} (x : X) (xs : List X) → length xs ≡ 0 → Contains xs x → ⊥
none_there x xs empty (k, few, is) = omega (arith, empty, few)

module _ {S L : Type 0} (steps : S → L → ℕ → S → Type 0) (last : S → L → ℕ) (tracks : List (Vec L)) (start : Node S) (limits : Limits) where
  -- a node is reached by the order that it has
  abbrev pub IsBehind : Node S → Type 0
  IsBehind n = (order : List Turn) × (n.order.items ≡ start.order.items ++ reverse order) × LeadsToNode steps tracks start order n

  -- orders with `count` turns lead to the newest layer, and those with fewer to what was found
  pub record IsSoFar (count : ℕ) (found layer : List (Node S)) (left : Limits) : Type 0 where
    pub newest : (order : List Turn) → length order ≡ count → AreTaken tracks start.places.items order → (n : Node S) × Contains layer n × LeadsToNode steps tracks start order n
    pub earlier : (order : List Turn) → length order < count → AreTaken tracks start.places.items order → (n : Node S) × Contains found n × LeadsToNode steps tracks start order n
    pub from : (n : Node S) → Contains layer n → IsBehind n
    pub from_found : (n : Node S) → Contains found n → IsBehind n
    pub sized : (n : Node S) → Contains layer n → length n.places.items ≡ length tracks
    pub before : List (List (Node S))
    pub layers : AreLayersBehind steps tracks start before layer
    pub spent : left.steps + runs_of_all last tracks before ≡ limits.steps
    pub states : left.states ≡ limits.states

  pub so_far_first : (found layer : List (Node S)) (left : Limits) → found ≡ [] → layer ≡ start ∷ [] → left ≡ limits → length start.places.items ≡ length tracks → IsSoFar 0 found layer left
  so_far_first found layer left none alone same sized = record {
    newest = first;
    earlier = λ order few taken. absurd (omega (arith, few));
    from = λ n at. subst IsBehind (sym (one_there start n layer alone at)) ([], sym (append-nil start.order.items), (refl, refl));
    from_found = λ n at. absurd (none_there n found (ap length none) at);
    sized = λ n at. ap (λ (m : Node S). length m.places.items) (one_there start n layer alone at) ∙ sized;
    before = [];
    layers = alone;
    spent = ap (λ (l : Limits). l.steps + 0) same ∙ omega arith;
    states = ap (λ (l : Limits). l.states) same;
  }
    where
      first : (order : List Turn) → length order ≡ 0 → AreTaken tracks start.places.items order → (n : Node S) × Contains layer n × LeadsToNode steps tracks start order n
      first [] len taken = (start, here start layer alone, (refl, refl))
      first (turn ∷ before) len taken = absurd (omega (arith, len))

  pub so_far_next : (breaks : S → L → ℕ → Type 0) (count : ℕ) (found layer new : List (Node S)) (left : Limits) (next : Layer S) → IsSoFar count found layer left → MakesNext steps last breaks tracks whole layer left (Ok next) → new ≡ found ++ layer
      → IsSoFar (count + 1) new next.nodes.items next.limits
  so_far_next breaks count found layer new left next was made put = record {
    newest = longer;
    earlier = λ order few taken. elim (eqb_tells (length order) count) [
      | inl (_, same) ↦ (let (n, at, led) = was.newest order same taken in (n, in_new_right n at, led))
      | inr (_, other) ↦ (let (n, at, led) = was.earlier order (omega (arith, few, other)) taken in (n, in_new_left n at, led))
    ];
    from = λ n at. let (old, there, behind, size) = successor n at in behind;
    from_found = λ n at. go n (Contains-append_cases found layer n (subst (λ l. Contains l n) put at));
    sized = λ n at. let (old, there, behind, size) = successor n at in size;
    before = layer ∷ was.before;
    layers = (was.layers, made.follows);
    spent = omega (arith, was.spent, made.within.steps);
    states = made.within.states ∙ was.states;
  }
    where
      in_new_right : (n : Node S) → Contains layer n → Contains new n
      in_new_right n at = subst (λ l. Contains l n) (sym put) (Contains-append_right found layer n at)

      in_new_left : (n : Node S) → Contains found n → Contains new n
      in_new_left n at = subst (λ l. Contains l n) (sym put) (Contains-append_left found layer n at)

      go : (n : Node S) → Contains found n ⊎ Contains layer n → IsBehind n
      go n (inl at) = was.from_found n at
      go n (inr at) = was.from n at

      longer : (order : List Turn) → length order ≡ count + 1 → AreTaken tracks start.places.items order → (n : Node S) × Contains next.nodes.items n × LeadsToNode steps tracks start order n
      longer [] len taken = absurd (omega (arith, len))
      longer (turn ∷ before) len (taken, (line, is)) =
          let (n, at, (places, led)) = was.newest before (omega (arith, len)) taken in
          let (k, found_at) = contains_get layer n at in
          let next_here : IsNextAt (track tracks) n.places.items turn.track line = subst (λ (p : List ℕ). IsNextAt (track tracks) p turn.track line) (sym places) is in
          let open_here : IsNextAt (opening whole tracks) n.places.items turn.track line =
          subst (λ (lines : List L). slice_get lines (get_or n.places.items turn.track 0) ≡ Some line) (sym (opening_has whole tracks turn.track (whole_begins turn.track))) next_here in
          let within = within_tracks tracks turn.track (get_or n.places.items turn.track 0) line next_here in
          let (state, step, (m, there, moved, same)) = made.follows.expanded k (slice_get_within layer k n found_at) (omega arith) n found_at turn.track within line open_here turn.way in (
            m,
            there,
            (moved ∙ ap (λ (p : List ℕ). advanced turn.track p) places, (n.state, line, led, is, subst (λ (s : S). steps n.state line turn.way s) (sym same) step)),
          )

      successor : (n : Node S) → Contains next.nodes.items n → (old : Node S) × Contains layer old × IsBehind n × (length n.places.items ≡ length tracks)
      successor n at =
          let (old, there, by) = made.follows.from n at in
          let (order, is, (places, led)) = was.from old there in
          let next_here = (opened whole tracks old.places.items by.turn.track by.line by.next).1 in (
            old,
            there,
            (
              by.turn ∷ order,
              order_more start.order.items old.order.items n.order.items by.turn order is by.order,
              (by.places ∙ ap (λ (p : List ℕ). advanced by.turn.track p) places, (old.state, by.line, led, subst (λ (p : List ℕ). IsNextAt (track tracks) p by.turn.track by.line) places next_here, by.step)),
            ),
            ap length by.places ∙ length-set old.places.items by.turn.track (suc (get_or old.places.items by.turn.track 0)) ∙ was.sized old there,
          )

  -- where the newest layer is empty, no order has as many turns
  none_longer : (count : ℕ) (found layer : List (Node S)) (left : Limits) → IsSoFar count found layer left → length layer ≡ 0 → (order : List Turn) → AreTaken tracks start.places.items order → count ≤ length order → ⊥
  none_longer count found layer left was empty [] taken le = let (n, at, led) = was.newest [] (omega (arith, le)) taken in none_there n layer empty at
  none_longer count found layer left was empty (turn ∷ before) taken le = elim (eqb_tells (length (turn ∷ before)) count) [
    | inl (_, same) ↦ (let (n, at, led) = was.newest (turn ∷ before) same taken in none_there n layer empty at)
    | inr (_, other) ↦ none_longer count found layer left was empty before taken.0 (omega (arith, le, other))
  ]

  pub so_far_over : (count : ℕ) (found layer : List (Node S)) (left : Limits) → IsSoFar count found layer left → length layer ≡ 0 → AreReached steps tracks start found
  so_far_over count found layer left was empty = record {
    all = λ order taken. elim (leb_tells (length order + 1) count) [
      | inl (_, lt) ↦ was.earlier order (omega (arith, lt)) taken
      | inr (_, past) ↦ absurd (none_longer count found layer left was empty order taken (omega (arith, past)))
    ];
    from = was.from_found;
  }

  -- a line behind the newest layer stops
  pub so_far_stops : (breaks : S → L → ℕ → Type 0) (count : ℕ) (found layer : List (Node S)) (left : Limits) (stop : Stop) → IsSoFar count found layer left → MakesNext steps last breaks tracks whole layer left (Err stop)
      → Reaches steps last breaks tracks start limits (Err stop)
  so_far_stops breaks count found layer left Stop.Memory was stops = tt
  so_far_stops breaks count found layer left Stop.Most was stops = record { before = was.before; layer = layer; layers = was.layers; over = go stops }
    where
      go : (left.steps < runs_behind last whole tracks layer) ⊎ (left.states < 0 + runs_behind last whole tracks layer) → (limits.steps < runs_of_all last tracks (layer ∷ was.before)) ⊎ (limits.states < runs_behind last whole tracks layer)
      go (inl few) = inl (omega (arith, few, was.spent))
      go (inr narrow) = inr (omega (arith, narrow, was.states))
  so_far_stops breaks count found layer left (Stop.Breaks order) was (old, at, broken) =
      let (before, is, (places, led)) = was.from old at in record {
        before = before;
        turn = broken.turn;
        mid = old.state;
        line = broken.line;
        is = order_more start.order.items old.order.items order.items broken.turn before is broken.is;
        led = led;
        taken = subst (λ (p : List ℕ). IsNextAt (track tracks) p broken.turn.track broken.line) places ((opened whole tracks old.places.items broken.turn.track broken.line broken.next).1);
        broken = broken.broken;
      }
