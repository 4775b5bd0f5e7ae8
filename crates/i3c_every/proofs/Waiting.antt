-- What a program that waits is told behind the tracks' lines.
use Rattle.std.proofs.Common.{◌≡◌, ◌≢◌, ◌∙◌, ◌<◌, ◌+◌, ℕ, Some, get_or, zero, suc, List, [], ◌∷◌, ◌++◌, Contains, ap, arith, inl, inr, length, refl, reverse, subst, sym}
use Rattle.std.specs.Global.{Vec}
use Rattle.std.specs.List.{slice_get}
use Rattle.std.proofs.lemmas.List.{length-reverse, length-set}
use Rattle.std.proofs.lemmas.Option.{slice_get_cases, slice_get_within}
use Rattle.i3c_explore.specs.declared.node.Node.{Node}
use Rattle.i3c_explore.specs.declared.turn.Turn.{Turn}
use Rattle.i3c_explore.specs.Layers.{advanced}
use Rattle.i3c_explore.specs.Orders.{lines_in, track}
use Rattle.i3c_explore.specs.Reached.{AreReached, AreTaken, LeadsFrom, places_after}
use Rattle.i3c_orders.specs.declared.choice.Step.{Step}
use Rattle.i3c_every.specs.Meeting.{AreAwaited, AreSeenBehind, HasTurns, IsBegunAt, IsNothingLeft, IsSeenBehind, waited}
use Rattle.i3c_every.specs.Seen.{AreSeen, IsSeenAt}
use Rattle.i3c_every.specs.declared.met.Met.{Met}
use Rattle.i3c_every.specs.declared.told.Told.{Told}
use Rattle.i3c_every.proofs.Between.{taken_of}

one_there : {X : Type 0} (x y : X) → Contains (x ∷ []) y → y ≡ x
one_there x y (zero, few, same) = sym same
one_there x y (suc k, few, same) = absurd (omega (arith, few))

-- turns were taken exactly where there are some
turned : (own turns order : List Turn) → own ≡ [] → turns ≡ own ++ reverse order → turns ≢ [] → order ≢ []
turned own turns order none is some empty = some (is ∙ ap (λ (l : List Turn). l ++ reverse order) none ∙ ap (λ (o : List Turn). reverse o) empty)

no_length : {X : Type 0} (xs : List X) → length xs ≡ 0 → xs ≡ []
no_length [] e = refl
no_length (x ∷ xs) e = absurd (omega (arith, e))

taken_some : (own turns order : List Turn) → own ≡ [] → turns ≡ own ++ reverse order → order ≢ [] → turns ≢ []
taken_some own turns order none is some empty =
    let back : reverse order ≡ [] = sym (ap (λ (l : List Turn). l ++ reverse order) none) ∙ sym is ∙ empty in
    some (no_length order (sym (length-reverse order) ∙ ap length back))

-- how many lines ran in all
abbrev total : List ℕ → ℕ
total [] = 0
total (place ∷ places) = place + total places

total_more : (places : List ℕ) (t : ℕ) → t < length places → total (advanced t places) ≡ total places + 1
total_more [] t lt = absurd (omega (arith, lt))
total_more (place ∷ places) zero lt = let is : advanced 0 (place ∷ places) ≡ suc place ∷ places = refl in ap total is ∙ omega arith
total_more (place ∷ places) (suc t) lt = let is : advanced (suc t) (place ∷ places) ≡ place ∷ advanced t places = refl in let more = total_more places t (omega (arith, lt)) in ap total is ∙ omega (arith, more)

-- a track that has a line is one of the tracks
within : {L : Type 0} (tracks : List (Vec L)) (t k : ℕ) (line : L) → slice_get (track tracks t) k ≡ Some line → t < length tracks
within {L} tracks t k line is = elim (slice_get_cases tracks t).1 [
  | inl (_, lt, _, _) ↦ lt
  | inr (_, none) ↦ (let few = slice_get_within [] k line (subst (λ (l : List L). slice_get l k ≡ Some line) (ap lines_in none) is) in absurd (omega (arith, few)))
]

-- each turn that is taken counts
total_after : {L : Type 0} (tracks : List (Vec L)) (places : List ℕ) (order : List Turn) → length places ≡ length tracks → AreTaken tracks places order → (total (places_after places order) ≡ total places + length order) × (length (places_after places order) ≡ length tracks)
total_after tracks places [] sized taken = (omega arith, sized)
total_after tracks places (turn ∷ before) sized (taken, (line, is)) =
    let (sum, size) = total_after tracks places before sized taken in
    let at = places_after places before in
    let lt = within tracks turn.track (get_or at turn.track 0) line is in
    let more = total_more at turn.track (omega (arith, lt, size)) in
    (omega (arith, more, sum), length-set at turn.track (suc (get_or at turn.track 0)) ∙ size)

-- where lines ran, something happened
happened_by : {A : Type 0} (order : List Turn) (answer : A) → order ≢ [] → Told.Happened answer ≡ waited order answer
happened_by [] answer some = absurd (some refl)
happened_by (turn ∷ before) answer some = refl

-- a list that isn't empty has an element
one_of : {X : Type 0} (xs : List X) → 0 < length xs → (x : X) × Contains xs x
one_of [] some = absurd (omega (arith, some))
one_of (x ∷ xs) some = (x, (0, some, refl))

module _ {S L A : Type 0} (steps : S → L → ℕ → S → Type 0) (sees : S → A → Type 0) (tracks : List (Vec L)) where
  happened : (old : Met S) (start node : Node S) (order : List Turn) (step : Step (Met S) (Told A)) → IsBegunAt old start → order ≢ [] → node.places.items ≡ places_after start.places.items order → LeadsFrom steps tracks start.places.items start.state order node.state
      → IsSeenAt sees node step → IsSeenBehind steps sees tracks old order step
  happened old start node order step begun some places led is = record {
    answer = is.answer;
    led = subst (λ (s : S). LeadsFrom steps tracks old.places.items old.state order s) (sym is.state)
        (subst (λ (s : S). LeadsFrom steps tracks old.places.items s order node.state) begun.state (subst (λ (p : List ℕ). LeadsFrom steps tracks p start.state order node.state) begun.places led));
    seen = subst (λ (s : S). sees s is.answer) (sym is.state) is.seen;
    told = is.told ∙ happened_by order is.answer some;
    places = is.places ∙ places ∙ ap (λ (p : List ℕ). places_after p order) begun.places;
  }

  -- where lines were taken a node has turns
  has_turns : (old : Met S) (start node : Node S) (order : List Turn) → (nodes : List (Node S)) → IsBegunAt old start → length start.places.items ≡ length tracks → AreReached steps tracks start nodes → Contains nodes node → node.places.items ≡ places_after start.places.items order
      → AreTaken tracks start.places.items order → order ≢ [] → node.order.items ≢ []
  has_turns old start node order nodes begun sized reached there places taken some empty =
      let (own, by, (at, led)) = reached.from node there in
      let none : own ≡ [] = decide own by in
      let same : places_after start.places.items order ≡ start.places.items = sym places ∙ at ∙ ap (λ (o : List Turn). places_after start.places.items o) none in
      let (sum, size) = total_after tracks start.places.items order sized taken in
      some (no_length order (let back = ap total same in omega (arith, sum, back)))
    where
      decide : (own : List Turn) → node.order.items ≡ start.order.items ++ reverse own → own ≡ []
      decide [] by = refl
      decide (turn ∷ before) by = absurd (taken_some start.order.items node.order.items (turn ∷ before) begun.order by (λ none. cc) empty)

  each_seen : (old : Met S) (start : Node S) (nodes : List (Node S)) (all : List (Step (Met S) (Told A))) → IsBegunAt old start → length start.places.items ≡ length tracks → AreReached steps tracks start nodes → AreSeen sees nodes all
      → (order : List Turn) → AreTaken tracks old.places.items order → order ≢ [] → (step : Step (Met S) (Told A)) × Contains all step × IsSeenBehind steps sees tracks old order step
  each_seen old start nodes all begun sized reached seen order taken some =
      let taken_there = subst (λ (p : List ℕ). AreTaken tracks p order) (sym begun.places) taken in
      let (node, there, (places, led)) = reached.all order taken_there in
      let (step, at, is) = seen.all node there (has_turns old start node order nodes begun sized reached there places taken_there some) in
      (step, at, happened old start node order step begun some places led is)

  -- each step is seen behind a line at least
  from_seen : (old : Met S) (start : Node S) (nodes : List (Node S)) (all : List (Step (Met S) (Told A))) → IsBegunAt old start → AreReached steps tracks start nodes → AreSeen sees nodes all
      → (step : Step (Met S) (Told A)) → Contains all step → (order : List Turn) × (order ≢ []) × AreTaken tracks old.places.items order × IsSeenBehind steps sees tracks old order step × HasTurns order step
  from_seen old start nodes all begun reached seen step at =
      let (node, there, is, turns) = seen.from step at in
      let (order, by, (places, led)) = reached.from node there in
      let some : order ≢ [] = turned start.order.items node.order.items order begun.order by is.ran in
      (order, some, subst (λ (p : List ℕ). AreTaken tracks p order) begun.places (taken_of steps tracks start.places.items start.state order node.state led), happened old start node order step begun some places led is, turns ∙ by ∙ ap (λ (l : List Turn). l ++ reverse order) begun.order)

  pub seen_behind : (old : Met S) (start : Node S) (nodes : List (Node S)) (all : List (Step (Met S) (Told A))) → IsBegunAt old start → length start.places.items ≡ length tracks → AreReached steps tracks start nodes → AreSeen sees nodes all → 0 < length all
      → AreSeenBehind steps sees tracks old all
  seen_behind old start nodes all begun sized reached seen some = record {
    from = λ step at. let (order, ran, taken, is, turns) = from_seen old start nodes all begun reached seen step at in (order, (taken, λ none. absurd (ran none)), is, turns);
    each = each;
  }
    where
      each : (order : List Turn) → AreAwaited tracks old.places.items order → (step : Step (Met S) (Told A)) × Contains all step × IsSeenBehind steps sees tracks old order step
      each [] (taken, left) = let (step, at) = one_of all some in let (order, ran, is_taken, is, turns) = from_seen old start nodes all begun reached seen step at in absurd (ran (left refl order is_taken))
      each (turn ∷ before) (taken, left) = each_seen old start nodes all begun sized reached seen (turn ∷ before) taken (λ none. cc)

  -- where nothing is seen, nothing is left
  pub nothing_seen : (old : Met S) (start : Node S) (nodes : List (Node S)) (none all : List (Step (Met S) (Told A))) → IsBegunAt old start → length start.places.items ≡ length tracks → AreReached steps tracks start nodes → AreSeen sees nodes none → length none ≡ 0
      → IsNothingLeft sees old all → AreSeenBehind steps sees tracks old all
  nothing_seen old start nodes none all begun sized reached seen empty (step, answer, one, told, sees_it, state, places, turns) = record {
    from = λ other at. let same : other ≡ step = one_there step other (subst (λ l. Contains l other) one at) in
        ([], (tt, λ nothing. is_none), subst (λ (s : Step (Met S) (Told A)). IsSeenBehind steps sees tracks old [] s) (sym same) own, subst (λ (s : Step (Met S) (Told A)). HasTurns [] s) (sym same) turns);
    each = each;
  }
    where
      own : IsSeenBehind steps sees tracks old [] step
      own = record { answer = answer; led = state; seen = subst (λ (s : S). sees s answer) (sym state) sees_it; told = told; places = places }

      impossible : (order : List Turn) → AreTaken tracks old.places.items order → order ≢ [] → ⊥
      impossible order taken some = let (other, (k, few, same), is) = each_seen old start nodes none begun sized reached seen order taken some in omega (arith, few, empty)

      is_none : (order : List Turn) → AreTaken tracks old.places.items order → order ≡ []
      is_none [] taken = refl
      is_none (turn ∷ before) taken = absurd (impossible (turn ∷ before) taken (λ none. cc))

      each : (order : List Turn) → AreAwaited tracks old.places.items order → (other : Step (Met S) (Told A)) × Contains all other × IsSeenBehind steps sees tracks old order other
      each [] (taken, left) = (step, subst (λ l. Contains l step) (sym one) (0, omega arith, refl), own)
      each (turn ∷ before) (taken, left) = absurd (impossible (turn ∷ before) taken (λ none. cc))
