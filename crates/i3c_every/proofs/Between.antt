-- What is told behind the tracks' lines.
use Rattle.std.proofs.Common.{◌≡◌, ◌⊎◌, ◌∙◌, ◌<◌, ℕ, zero, suc, List, [], ◌∷◌, ◌++◌, Contains, Err, Ok, Result, IfOk, ap, arith, inl, inr, length, refl, reverse, subst, sym}
use Rattle.std.specs.Global.{Vec}
use Rattle.i3c_explore.specs.declared.limits.Limits.{Limits}
use Rattle.i3c_explore.specs.declared.node.Node.{Node}
use Rattle.i3c_explore.specs.declared.stop.Stop.{Stop}
use Rattle.i3c_explore.specs.declared.turn.Turn.{Turn}
use Rattle.i3c_explore.specs.Reached.{AreReached, AreTaken, LeadsFrom, Reaches, places_after}
use Rattle.i3c_orders.specs.declared.choice.Step.{Step}
use Rattle.i3c_every.specs.Answered.{AreAnswered, IsAnsweredAt}
use Rattle.i3c_every.specs.Meeting.{AreTold, FailsAt, IsBegunAt, IsToldBehind}
use Rattle.i3c_every.specs.declared.met.Met.{Met}
use Rattle.i3c_every.specs.declared.told.Told.{Told}

one_there : {X : Type 0} (x y : X) (xs : List X) → xs ≡ x ∷ [] → Contains xs y → y ≡ x
one_there x y xs is at = go (subst (λ l. Contains l y) is at)
  where
    go : Contains (x ∷ []) y → y ≡ x
    go (zero, few, same) = sym same
    go (suc k, few, same) = absurd (omega (arith, few))

here : {X : Type 0} (x : X) (xs : List X) → xs ≡ x ∷ [] → Contains xs x
here x xs is = subst (λ l. Contains l x) (sym is) (zero, omega (arith), refl)

-- lines that lead somewhere are left in the tracks
pub taken_of : {S L : Type 0} (steps : S → L → ℕ → S → Type 0) (tracks : List (Vec L)) (places : List ℕ) (start : S) (order : List Turn) (end : S) → LeadsFrom steps tracks places start order end → AreTaken tracks places order
taken_of steps tracks places start [] end led = tt
taken_of steps tracks places start (turn ∷ before) end (mid, line, led, taken, step) = (taken_of steps tracks places start before mid led, (line, taken))

module _ {S L P A : Type 0} (steps : S → L → ℕ → S → Type 0) (answers : S → P → ℕ → A → S → Type 0) (tracks : List (Vec L)) where
  behind : (old : Met S) (start node : Node S) (order : List Turn) (line : P) (way : ℕ) (step : Step (Met S) (Told A)) → IsBegunAt old start → node.places.items ≡ places_after start.places.items order
      → LeadsFrom steps tracks start.places.items start.state order node.state → IsAnsweredAt answers node line way step → IsToldBehind steps answers tracks old order line way step
  behind old start node order line way step begun places led is = record {
    mid = node.state;
    answer = is.answer;
    led = subst (λ (s : S). LeadsFrom steps tracks old.places.items s order node.state) begun.state (subst (λ (p : List ℕ). LeadsFrom steps tracks p start.state order node.state) begun.places led);
    answered = is.led;
    told = is.told;
    places = is.places ∙ places ∙ ap (λ (p : List ℕ). places_after p order) begun.places;
  }

  by_way : (old : Met S) (order : List Turn) (line : P) (way : ℕ) (step : Step (Met S) (Told A)) → step.state.way ≡ way → IsToldBehind steps answers tracks old order line way step → IsToldBehind steps answers tracks old order line step.state.way step
  by_way old order line way step own told = subst (λ (w : ℕ). IsToldBehind steps answers tracks old order line w step) (sym own) told

  pub told_alone : (old : Met S) (start : Node S) (nodes : List (Node S)) (line : P) (all : List (Step (Met S) (Told A))) → IsBegunAt old start → nodes ≡ start ∷ [] → AreAnswered answers nodes line all → AreTold steps answers tracks old (λ order. order ≡ []) line all
  told_alone old start nodes line all begun one answered = record {
    from = λ step at. let (node, there, (way, is, (turns, own))) = answered.from step at in
        let same : node ≡ start = one_there start node nodes one there in
        ([], refl, by_way old [] line way step own (behind old start start [] line way step begun refl refl (subst (λ (n : Node S). IsAnsweredAt answers n line way step) same is)), turns ∙ ap (λ (n : Node S). n.order.items) same ∙ begun.order);
    each = λ order none way. let (step, there, is) = answered.all start (here start nodes one) way in
        (step, there, subst (λ (o : List Turn). IsToldBehind steps answers tracks old o line way step) (sym none) (behind old start start [] line way step begun refl refl is));
  }

  pub told_meeting : (old : Met S) (start : Node S) (nodes : List (Node S)) (line : P) (all : List (Step (Met S) (Told A))) → IsBegunAt old start → AreReached steps tracks start nodes → AreAnswered answers nodes line all
      → AreTold steps answers tracks old (AreTaken tracks old.places.items) line all
  told_meeting old start nodes line all begun reached answered = record {
    from = λ step at. let (node, there, (way, is, (turns, own))) = answered.from step at in let (order, by, (places, led)) = reached.from node there in
        (order, subst (λ (p : List ℕ). AreTaken tracks p order) begun.places (taken_of steps tracks start.places.items start.state order node.state led), by_way old order line way step own (behind old start node order line way step begun places led is), turns ∙ by ∙ ap (λ (l : List Turn). l ++ reverse order) begun.order);
    each = λ order taken way. let (node, there, (places, led)) = reached.all order (subst (λ (p : List ℕ). AreTaken tracks p order) (sym begun.places) taken) in let (step, at, is) = answered.all node there way in
        (step, at, behind old start node order line way step begun places led is);
  }

  -- a line is told something
  pub told_some : (old : Met S) (Is : List Turn → Type 0) (line : P) (all : List (Step (Met S) (Told A))) → Is [] → AreTold steps answers tracks old Is line all → 0 < length all
  told_some old Is line all none told = let (step, (k, few, same), is) = told.each [] none 0 in omega (arith, few)

  pub all_alone : {E : Type 0} (old : Met S) (start : Node S) (nodes : List (Node S)) (line : P) (result : Result (Vec (Step (Met S) (Told A))) E) → IsBegunAt old start → nodes ≡ start ∷ [] → IfOk result (λ all. AreAnswered answers nodes line all.items)
      → IfOk result (λ all. AreTold steps answers tracks old (λ order. order ≡ []) line all.items)
  all_alone old start nodes line (Ok all) begun one answered = told_alone old start nodes line all.items begun one answered
  all_alone old start nodes line (Err short) begun one answered = tt

  pub some_alone : {E : Type 0} (old : Met S) (line : P) (result : Result (Vec (Step (Met S) (Told A))) E) → IfOk result (λ all. AreTold steps answers tracks old (λ order. order ≡ []) line all.items) → IfOk result (λ all. 0 < length all.items)
  some_alone old line (Ok all) told = told_some old (λ order. order ≡ []) line all.items refl told
  some_alone old line (Err short) told = tt

-- what was reached, where there was memory
pub reached_so : {S L : Type 0} (steps : S → L → ℕ → S → Type 0) (last : S → L → ℕ) (breaks : S → L → ℕ → Type 0) (tracks : List (Vec L)) (old : Met S) (limits : Limits) (nodes : Vec (Node S)) (result : Result (Vec (Node S)) Stop) → result ≡ Ok nodes
    → (result ≡ Err Stop.Memory) ⊎ ((start : Node S) × IsBegunAt old start × (length start.places.items ≡ length tracks) × Reaches steps last breaks tracks start limits result) → (start : Node S) × IsBegunAt old start × (length start.places.items ≡ length tracks) × AreReached steps tracks start nodes.items
reached_so steps last breaks tracks old limits nodes result is (inl short) = absurd cc
reached_so steps last breaks tracks old limits nodes result is (inr (start, begun, sized, reached)) = (start, begun, sized, subst (λ r. Reaches steps last breaks tracks start limits r) is reached)

-- why nothing was reached
pub fails_so : {S L : Type 0} (steps : S → L → ℕ → S → Type 0) (last : S → L → ℕ) (breaks : S → L → ℕ → Type 0) (tracks : List (Vec L)) (old : Met S) (limits : Limits) (stop : Stop) (result : Result (Vec (Node S)) Stop) → result ≡ Err stop
    → (result ≡ Err Stop.Memory) ⊎ ((start : Node S) × IsBegunAt old start × (length start.places.items ≡ length tracks) × Reaches steps last breaks tracks start limits result) → FailsAt steps last breaks tracks limits old stop
fails_so steps last breaks tracks old limits stop result is (inl short) = inl cc
fails_so steps last breaks tracks old limits stop result is (inr (start, begun, sized, reached)) = inr (start, begun, subst (λ r. Reaches steps last breaks tracks start limits r) is reached)
