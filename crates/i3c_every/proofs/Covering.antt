-- What was tried of a program's runs while lines of the tracks run.
use Rattle.std.proofs.Common.{◌≡◌, ◌∙◌, ℕ, zero, suc, List, [], ◌∷◌, ◌++◌, Contains, Option, None, Some, ap, append-nil, arith, refl, subst, sym}
use Rattle.std.specs.Global.{Vec}
use Rattle.std.proofs.lemmas.List.{append_assoc, map_push}
use Rattle.std.proofs.lemmas.Option.{same_Some}
use Rattle.i3c_explore.specs.declared.turn.Turn.{Turn}
use Rattle.i3c_explore.specs.Reached.{LeadsFrom, places_after}
use Rattle.i3c_orders.specs.declared.choice.Step.{Step}
use Rattle.i3c_orders.specs.Runs.{AreTried, CanLead, IsRun, IsRunFrom, state_after, told_by}
use Rattle.i3c_every.specs.declared.met.Met.{Met}
use Rattle.i3c_every.specs.declared.sent.Sent.{Sent}
use Rattle.i3c_every.specs.declared.told.Told.{Told}
use Rattle.i3c_every.specs.Every.{AreAlike, HasMet, IsDetermined, IsMet, IsToldSo, MayMeet, MayRun, MeetsEvery}
use Rattle.i3c_every.specs.Meeting.{AreMet, IsSeenBehind, IsToldBehind, waited}

none_is_some : {X : Type 0} (o : Option X) (x : X) → o ≡ None → o ≡ Some x → ⊥
none_is_some o x none some = cc

-- the one element of a list
only_one : {X : Type 0} (y x : X) → Contains (y ∷ []) x → x ≡ y
only_one y x (zero, few, is) = sym is
only_one y x (suc k, few, is) = absurd (omega (arith, few))

-- the answers of a run and one step more, and the state behind them
told_more : {S A : Type 0} (run : List (Step S A)) (step : Step S A) → told_by (run ++ step ∷ []) ≡ told_by run ++ step.answer ∷ []
told_more {S} {A} run step = map_push (λ (s : Step S A). s.answer) run step

state_more : {S A : Type 0} (start : S) (run : List (Step S A)) (step : Step S A) → state_after start (run ++ step ∷ []) ≡ step.state
state_more start [] step = refl
state_more start (first ∷ run) step = state_more first.state run step

module _ {S L P A : Type 0} (steps : S → L → ℕ → S → Type 0) (answers : S → P → ℕ → A → S → Type 0) (sees : S → A → Type 0) (tracks : List (Vec L)) where
  -- each order is told by one of the steps, in each way
  pub each_met : (old : Met S) (sent : Sent P) (all : List (Step (Met S) (Told A))) → AreMet steps answers sees tracks old sent all → (order : List Turn) → MayRun tracks old.places.items sent order → (way : ℕ)
      → (step : Step (Met S) (Told A)) × Contains all step × IsToldSo steps answers sees tracks old sent order way step
  each_met old (Sent.Meets line) all met order may way = met.each order may way
  each_met old (Sent.Alone line) all met order may way = met.each order may way
  each_met old Sent.Waits all met order may way = met.each order may
  each_met old (Sent.Marks mark) all (step, one, stays, none) order may way = (step, subst (λ l. Contains l step) (sym one) (0, omega arith, refl), stays)

  -- and each step is of the order and the way that it keeps
  from_met : (old : Met S) (sent : Sent P) (all : List (Step (Met S) (Told A))) → AreMet steps answers sees tracks old sent all → (step : Step (Met S) (Told A)) → Contains all step → HasMet steps answers sees tracks old sent step.answer step.state
  from_met old (Sent.Meets line) all met step at = met.from step at
  from_met old (Sent.Alone line) all met step at = met.from step at
  from_met old Sent.Waits all met step at = met.from step at
  from_met old (Sent.Marks mark) all (one, is, stays, none) step at =
      subst (λ (s : Step (Met S) (Told A)). HasMet steps answers sees tracks old (Sent.Marks mark) s.answer s.state) (sym (only_one one step (subst (λ l. Contains l step) is at))) ([], refl, stays, none)

  module _ (program : List (Told A) → Option (Sent P)) (start : Met S) (tried : List (List (Step (Met S) (Told A)))) where
    -- where all answers were tried, all orders were
    pub meets : (run : List (Step (Met S) (Told A))) → AreTried (AreMet steps answers sees tracks) program start tried run → MeetsEvery steps answers sees tracks program start tried run
    meets run (AreTried.Over _ ends at) = MeetsEvery.Over run ends at
    meets run (AreTried.GoesOn _ sent all asks given on) =
        MeetsEvery.GoesOn run sent asks (λ order may way.
        let found = each_met (state_after start run) sent all given order may way in
        IsMet.By run sent order way found.0 found.2 (meets (run ++ found.0 ∷ []) (on found.0 found.1)))

    goes : (told : List (Told A)) (state : Met S) (run : List (Step (Met S) (Told A))) → IsRunFrom (CanLead (AreMet steps answers sees tracks)) program told state run → IsRunFrom (HasMet steps answers sees tracks) program told state run
    goes told state [] over = over
    goes told state (step ∷ run) (sent, asks, (all, given, at), rest) = (sent, asks, from_met state sent all given step at, goes (told ++ step.answer ∷ []) step.state run rest)

    -- a run of the answers that were given is one that the program may have, by what its states keep
    pub only_met : (run : List (Step (Met S) (Told A))) → IsRun (CanLead (AreMet steps answers sees tracks)) program start run → IsRun (HasMet steps answers sees tracks) program start run
    only_met run is = goes [] start run is

    met_by : (run : List (Step (Met S) (Told A))) (sent : Sent P) (order : List Turn) (way : ℕ) → IsMet steps answers sees tracks program start tried run sent order way
        → (step : Step (Met S) (Told A)) × IsToldSo steps answers sees tracks (state_after start run) sent order way step × MeetsEvery steps answers sees tracks program start tried (run ++ step ∷ [])
    met_by run sent order way (IsMet.By _ _ _ _ step told on) = (step, told, on)

    module _ (determined : IsDetermined steps answers sees) where
      led_same : (places : List ℕ) (from : S) (order : List Turn) (one other : S) → LeadsFrom steps tracks places from order one → LeadsFrom steps tracks places from order other → one ≡ other
      led_same places from [] one other led leads = led ∙ sym leads
      led_same places from (turn ∷ before) one other (mid, line, led, taken, step) (half, next, leads, takes, steps_on) =
          let same_mid : mid ≡ half = led_same places from before mid half led leads in
          let same_line : line ≡ next = same_Some line next (sym taken ∙ takes) in
          determined.ends half next turn.way one other (subst (λ (l : L). steps half l turn.way one) same_line (subst (λ (m : S). steps m line turn.way one) same_mid step)) steps_on

      -- from equal states and places an order leads to the same state
      led_alike : (one other : Met S) (order : List Turn) (end last : S) → one.state ≡ other.state → one.places.items ≡ other.places.items → LeadsFrom steps tracks one.places.items one.state order end → LeadsFrom steps tracks other.places.items other.state order last
          → end ≡ last
      led_alike one other order end last states places led leads =
          led_same other.places.items other.state order end last (subst (λ (s : S). LeadsFrom steps tracks other.places.items s order end) states (subst (λ (p : List ℕ). LeadsFrom steps tracks p one.state order end) places led)) leads

      -- two steps tell the same, and lead to equal states and places
      abbrev pub AreSame : Step (Met S) (Told A) → Step (Met S) (Told A) → Type 0
      AreSame one other = (one.answer ≡ other.answer) × (one.state.state ≡ other.state.state) × (one.state.places.items ≡ other.state.places.items)

      told_alike : (one other : Met S) (line : P) (order : List Turn) (way : ℕ) (step next : Step (Met S) (Told A)) → one.state ≡ other.state → one.places.items ≡ other.places.items → IsToldBehind steps answers tracks one order line way step
          → IsToldBehind steps answers tracks other order line way next → AreSame step next
      told_alike one other line order way step next states places is its =
          let mid : is.mid ≡ its.mid = led_alike one other order is.mid its.mid states places is.led its.led in
          let (answer, state) = determined.answer its.mid line way is.answer its.answer step.state.state next.state.state (subst (λ (m : S). answers m line way is.answer step.state.state) mid is.answered) its.answered in
          (is.told ∙ ap (λ (a : A). Told.Answered a) answer ∙ sym its.told, state, is.places ∙ ap (λ (p : List ℕ). places_after p order) places ∙ sym its.places)

      seen_alike : (one other : Met S) (order : List Turn) (step next : Step (Met S) (Told A)) → one.state ≡ other.state → one.places.items ≡ other.places.items → IsSeenBehind steps sees tracks one order step → IsSeenBehind steps sees tracks other order next
          → AreSame step next
      seen_alike one other order step next states places is its =
          let state : step.state.state ≡ next.state.state = led_alike one other order step.state.state next.state.state states places is.led its.led in
          let answer : is.answer ≡ its.answer = determined.sight next.state.state is.answer its.answer (subst (λ (s : S). sees s is.answer) state is.seen) its.seen in
          (is.told ∙ ap (λ (a : A). waited order a) answer ∙ sym its.told, state, is.places ∙ ap (λ (p : List ℕ). places_after p order) places ∙ sym its.places)

      pub so_alike : (one other : Met S) (sent : Sent P) (order : List Turn) (way : ℕ) (step next : Step (Met S) (Told A)) → one.state ≡ other.state → one.places.items ≡ other.places.items → IsToldSo steps answers sees tracks one sent order way step
          → IsToldSo steps answers sees tracks other sent order way next → AreSame step next
      so_alike one other (Sent.Meets line) order way step next states places is its = told_alike one other line order way step next states places is its
      so_alike one other (Sent.Alone line) order way step next states places is its = told_alike one other line order way step next states places is its
      so_alike one other Sent.Waits order way step next states places is its = seen_alike one other order step next states places is its
      so_alike one other (Sent.Marks mark) order way step next states places (answer, told, seen, (state, stands)) (reply, tells, looks, (leads, at)) =
          let same : step.state.state ≡ next.state.state = state ∙ states ∙ sym leads in
          let alike : answer ≡ reply = determined.sight next.state.state answer reply (subst (λ (s : S). sees s answer) same seen) looks in
          (told ∙ ap (λ (a : A). Told.Marked a) alike ∙ sym tells, same, stands ∙ places ∙ sym at)

      -- a run was tried that is alike
      pub record IsTriedAs (told : List (Told A)) (end : Met S) : Type 0 where
        pub run : List (Step (Met S) (Told A))
        pub there : Contains tried run
        pub told_so : told_by run ≡ told
        pub state : (state_after start run).state ≡ end.state
        pub places : (state_after start run).places.items ≡ end.places.items

      goes_alike : (run : List (Step (Met S) (Told A))) (told : List (Told A)) (state : Met S) (rest : List (Step (Met S) (Told A))) → MeetsEvery steps answers sees tracks program start tried run → told_by run ≡ told
          → (state_after start run).state ≡ state.state → (state_after start run).places.items ≡ state.places.items → IsRunFrom (MayMeet steps answers sees tracks) program told state rest → IsTriedAs (told ++ told_by rest) (state_after state rest)
      goes_alike run told state [] (MeetsEvery.Over _ ends at) same states places over = record { run = run; there = at; told_so = same ∙ sym (append-nil told); state = states; places = places }
      goes_alike run told state [] (MeetsEvery.GoesOn _ own asks each) same states places over = absurd (none_is_some (program told) own over (subst (λ (t : List (Told A)). program t ≡ Some own) same asks))
      goes_alike run told state (step ∷ rest) (MeetsEvery.Over _ ends at) same states places (sent, asked, may, more) = absurd (none_is_some (program told) sent (subst (λ (t : List (Told A)). program t ≡ None) same ends) asked)
      goes_alike run told state (step ∷ rest) (MeetsEvery.GoesOn _ own asks each) same states places (sent, asked, (order, may, (way, is)), more) =
          let one : sent ≡ own = same_Some sent own (sym asked ∙ subst (λ (t : List (Told A)). program t ≡ Some own) same asks) in
          let may_own : MayRun tracks (state_after start run).places.items own order = subst (λ (p : List ℕ). MayRun tracks p own order) (sym places) (subst (λ (s : Sent P). MayRun tracks state.places.items s order) one may) in
          let (next, its, on) = met_by run own order way (each order may_own way) in
          let (answer, after, stands) = so_alike (state_after start run) state own order way next step states places its (subst (λ (s : Sent P). IsToldSo steps answers sees tracks state s order way step) one is) in
          let longer = goes_alike (run ++ next ∷ []) (told ++ step.answer ∷ []) step.state rest on
          (told_more run next ∙ ap (λ (t : List (Told A)). t ++ next.answer ∷ []) same ∙ ap (λ (a : Told A). told ++ a ∷ []) answer)
          (ap (λ (m : Met S). m.state) (state_more start run next) ∙ after)
          (ap (λ (m : Met S). m.places.items) (state_more start run next) ∙ stands)
          more in
          record { run = longer.run; there = longer.there; told_so = longer.told_so ∙ append_assoc told (step.answer ∷ []) (told_by rest); state = longer.state; places = longer.places }

      pub tried_alike : MeetsEvery steps answers sees tracks program start tried [] → (run : List (Step (Met S) (Told A))) → IsRun (MayMeet steps answers sees tracks) program start run → (other : List (Step (Met S) (Told A))) × Contains tried other × AreAlike start other run
      tried_alike all run is = let found = goes_alike [] [] start run all refl refl refl is in (found.run, found.there, (found.told_so, found.state, found.places))
