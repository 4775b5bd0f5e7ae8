-- What was tried of a program's runs, and what is left on its path.
use Rattle.std.proofs.Common.{◌≡◌, ◌⊎◌, inl, inr, zero, suc, List, [], ◌∷◌, ◌++◌, Contains, Option, None, Some, ap, refl, sym, subst, ◌∙◌, arith, ◌↔◌}
use Rattle.std.specs.Bool.{⊤}
use Rattle.std.proofs.lemmas.List.{append_assoc, append-nil, map_push}
use Rattle.std.proofs.lemmas.List.Elements.{Contains-append_left, Contains-append_right, Contains-append_cases}
use Rattle.std.proofs.lemmas.Option.{same_Some}
use Rattle.i3c_orders.specs.declared.choice.Choice.{Choice}
use Rattle.i3c_orders.specs.declared.choice.Step.{Step}
use Rattle.i3c_orders.specs.Paths.{IsOver, Retreats, state_behind, steps_of, told_on}
use Rattle.i3c_orders.specs.Runs.{AreTried, CanLead, IsRun, IsRunFrom, IsSettled, state_after, told_by}
use Rattle.i3c_orders.specs.Sessions.{IsTried, Move}

-- the one element of a list
only_one : {X : Type 0} (y x : X) → Contains (y ∷ []) x → x ≡ y
only_one y x (zero, few, is) = sym is
only_one y x (suc k, few, is) = absurd (omega (arith, few))

pub here : {X : Type 0} (y : X) (ys : List X) → Contains (y ∷ ys) y
here y ys = (0, omega (arith), refl)

pub there : {X : Type 0} (y : X) (ys : List X) (x : X) → Contains ys x → Contains (y ∷ ys) x
there y ys x h = Contains-append_right (y ∷ []) ys x h

pub first_or : {X : Type 0} (y : X) (ys : List X) (x : X) → Contains (y ∷ ys) x → (x ≡ y) ⊎ Contains ys x
first_or y ys x h = go (Contains-append_cases (y ∷ []) ys x h)
  where
    go : Contains (y ∷ []) x ⊎ Contains ys x → (x ≡ y) ⊎ Contains ys x
    go (inl one) = inl (only_one y x one)
    go (inr more) = inr more

pub none_in : {X : Type 0} (x : X) → Contains [] x → ⊥
none_in x (k, few, is) = omega (arith, few)

-- the last element, or one of those before it
pub last_or : {X : Type 0} (ys : List X) (y x : X) → Contains (ys ++ y ∷ []) x → (x ≡ y) ⊎ Contains ys x
last_or ys y x h = go (Contains-append_cases ys (y ∷ []) x h)
  where
    go : Contains ys x ⊎ Contains (y ∷ []) x → (x ≡ y) ⊎ Contains ys x
    go (inl more) = inr more
    go (inr one) = inl (only_one y x one)

first_or_last : {X : Type 0} (ys : List X) (y x : X) → (x ≡ y) ⊎ Contains ys x → Contains (ys ++ y ∷ []) x
first_or_last ys y x (inl is) = Contains-append_right ys (y ∷ []) x (subst (λ z. Contains (y ∷ []) z) (sym is) (here y []))
first_or_last ys y x (inr more) = Contains-append_left ys (y ∷ []) x more

pub none_is_some : {X : Type 0} (o : Option X) (x : X) → o ≡ None → o ≡ Some x → ⊥
none_is_some o x none some = cc

-- the answers of a run and one step more
pub told_more : {S A : Type 0} (run : List (Step S A)) (step : Step S A) → told_by (run ++ step ∷ []) ≡ told_by run ++ step.answer ∷ []
told_more {S} {A} run step = map_push (λ (s : Step S A). s.answer) run step

pub told_same : {L S A : Type 0} (path : List (Choice L S A)) → told_by (steps_of path) ≡ told_on path
told_same [] = refl
told_same (choice ∷ path) = ap (λ answers. choice.taken.answer ∷ answers) (told_same path)

-- the state behind a run and one step more
pub state_more : {S A : Type 0} (start : S) (run : List (Step S A)) (step : Step S A) → state_after start (run ++ step ∷ []) ≡ step.state
state_more start [] step = refl
state_more start (first ∷ run) step = state_more first.state run step

module _ {L S A : Type 0} (gives : S → L → List (Step S A) → Type 0) (program : List A → Option L) (start : S) where
  -- what was tried stays tried
  more_tried : (tried more : List (List (Step S A))) → ((r : List (Step S A)) → Contains tried r → Contains more r) → (run : List (Step S A)) → AreTried gives program start tried run → AreTried gives program start more run
  more_tried tried more all run (AreTried.Over _ ends at) = AreTried.Over run ends (all run at)
  more_tried tried more all run (AreTried.GoesOn _ line steps asks given on) = AreTried.GoesOn run line steps asks given (λ step at. more_tried tried more all (run ++ step ∷ []) (on step at))

  -- an answer is taken, or left, or what goes on with it was tried
  abbrev pub IsSeen : List (List (Step S A)) → List (Step S A) → Choice L S A → Step S A → Type 0
  IsSeen tried run choice step = (step ≡ choice.taken) ⊎ (Contains choice.left.items step ⊎ AreTried gives program start tried (run ++ step ∷ []))

  -- the answers that a line was given behind a run
  abbrev pub AreSeen : List (List (Step S A)) → List (Step S A) → Choice L S A → Type 0
  AreSeen tried run choice = (steps : List (Step S A)) × gives (state_after start run) choice.line steps × ((step : Step S A) → Contains steps step → IsSeen tried run choice step)
      × ((step : Step S A) → Contains (choice.taken ∷ choice.left.items) step → Contains steps step)

  -- behind a run each line of a path is the program's, and was given answers
  abbrev pub IsUnderway : List (List (Step S A)) → List (Step S A) → List (Choice L S A) → Type 0
  IsUnderway tried run [] = ⊤
  IsUnderway tried run (choice ∷ path) = (program (told_by run) ≡ Some choice.line) × AreSeen tried run choice × IsUnderway tried (run ++ choice.taken ∷ []) path

  -- the end of a run by its next step
  ends_on : (run : List (Step S A)) (first : Choice L S A) (path : List (Choice L S A)) (o : Option L) → program (told_by (run ++ steps_of (first ∷ path))) ≡ o → program (told_by ((run ++ first.taken ∷ []) ++ steps_of path)) ≡ o
  ends_on run first path o is = subst (λ r. program (told_by r) ≡ o) (sym (append_assoc run (first.taken ∷ []) (steps_of path))) is

  at_on : (more : List (List (Step S A))) (run : List (Step S A)) (first : Choice L S A) (path : List (Choice L S A)) → Contains more (run ++ steps_of (first ∷ path)) → Contains more ((run ++ first.taken ∷ []) ++ steps_of path)
  at_on more run first path at = subst (λ r. Contains more r) (sym (append_assoc run (first.taken ∷ []) (steps_of path))) at

  -- one line more is answered at the end of a path
  sent : (tried : List (List (Step S A))) (run : List (Step S A)) (path : List (Choice L S A)) (choice : Choice L S A) → IsUnderway tried run path → program (told_by (run ++ steps_of path)) ≡ Some choice.line
      → gives (state_behind (state_after start run) path) choice.line (choice.left.items ++ choice.taken ∷ []) → IsUnderway tried run (path ++ choice ∷ [])
  sent tried run [] choice was asks given = (
    subst (λ r. program (told_by r) ≡ Some choice.line) (append-nil run) asks,
    (choice.left.items ++ choice.taken ∷ [], given, λ step at. which step (last_or choice.left.items choice.taken step at), λ step at. first_or_last choice.left.items choice.taken step (first_or choice.taken choice.left.items step at)),
    tt,
  )
    where
      which : (step : Step S A) → (step ≡ choice.taken) ⊎ Contains choice.left.items step → IsSeen tried run choice step
      which step (inl is) = inl is
      which step (inr left) = inr (inl left)
  sent tried run (first ∷ path) choice (is, seen, rest) asks given = (
    is,
    seen,
    sent tried (run ++ first.taken ∷ []) path choice rest (ends_on run first path (Some choice.line) asks)
        (subst (λ (s : S). gives (state_behind s path) choice.line (choice.left.items ++ choice.taken ∷ [])) (sym (state_more start run first.taken)) given),
  )

  -- where the program is done at the end of a path with nothing left, all behind its beginning was tried
  done : (tried more : List (List (Step S A))) → ((r : List (Step S A)) → Contains tried r → Contains more r) → (run : List (Step S A)) (path : List (Choice L S A)) → IsUnderway tried run path → program (told_by (run ++ steps_of path)) ≡ None → IsOver path
      → Contains more (run ++ steps_of path) → AreTried gives program start more run
  done tried more all run [] was ends over at = AreTried.Over run (subst (λ r. program (told_by r) ≡ None) (append-nil run) ends) (subst (λ r. Contains more r) (append-nil run) at)
  done tried more all run (first ∷ path) (is, (steps, given, each, within), rest) ends (none, over) at =
      let behind : AreTried gives program start more (run ++ first.taken ∷ []) = done tried more all (run ++ first.taken ∷ []) path rest (ends_on run first path None ends) over (at_on more run first path at) in
      AreTried.GoesOn run first.line steps is given (λ step h. go step behind (each step h))
    where
      go : (step : Step S A) → AreTried gives program start more (run ++ first.taken ∷ []) → IsSeen tried run first step → AreTried gives program start more (run ++ step ∷ [])
      go step behind (inl taken) = subst (λ s. AreTried gives program start more (run ++ s ∷ [])) (sym taken) behind
      go step behind (inr (inl left)) = absurd (none_in step (subst (λ steps. Contains steps step) none left))
      go step behind (inr (inr earlier)) = more_tried tried more all (run ++ step ∷ []) earlier

  -- the same where the next run goes another way
  turned : (tried more : List (List (Step S A))) → ((r : List (Step S A)) → Contains tried r → Contains more r) → (run : List (Step S A)) (path new : List (Choice L S A)) → IsUnderway tried run path → program (told_by (run ++ steps_of path)) ≡ None → Retreats path new
      → Contains more (run ++ steps_of path) → IsUnderway more run new
  turned tried more all run [] new was ends back at = absurd back
  turned tried more all run (first ∷ path) [] was ends back at = absurd back
  turned tried more all run (first ∷ path) (other ∷ new) (is, (steps, given, each, within), rest) ends (inl (same, back)) at =
      subst (λ (c : Choice L S A). IsUnderway more run (c ∷ new)) (sym same) (
        is,
        (steps, given, λ step h. kept step (each step h), within),
        turned tried more all (run ++ first.taken ∷ []) path new rest (ends_on run first path None ends) back (at_on more run first path at),
      )
    where
      kept : (step : Step S A) → IsSeen tried run first step → IsSeen more run first step
      kept step (inl taken) = inl taken
      kept step (inr (inl left)) = inr (inl left)
      kept step (inr (inr earlier)) = inr (inr (more_tried tried more all (run ++ step ∷ []) earlier))
  turned tried more all run (first ∷ path) (other ∷ new) (is, (steps, given, each, within), rest) ends (inr (over, none, line, left)) at =
      let behind : AreTried gives program start more (run ++ first.taken ∷ []) = done tried more all (run ++ first.taken ∷ []) path rest (ends_on run first path None ends) over (at_on more run first path at) in (
        is ∙ ap Some (sym line),
        (
          steps,
          subst (λ (l : L). gives (state_after start run) l steps) (sym line) given,
          λ step h. go step behind (each step h),
          λ step h. within step (there first.taken first.left.items step (subst (λ steps. Contains steps step) (sym left) (first_or_last other.left.items other.taken step (first_or other.taken other.left.items step h)))),
        ),
        subst (λ rest. IsUnderway more (run ++ other.taken ∷ []) rest) (sym none) tt,
      )
    where
      which : (step : Step S A) → (step ≡ other.taken) ⊎ Contains other.left.items step → IsSeen more run other step
      which step (inl one) = inl one
      which step (inr among) = inr (inl among)

      go : (step : Step S A) → AreTried gives program start more (run ++ first.taken ∷ []) → IsSeen tried run first step → IsSeen more run other step
      go step behind (inl taken) = inr (inr (subst (λ s. AreTried gives program start more (run ++ s ∷ [])) (sym taken) behind))
      go step behind (inr (inl among)) = which step (last_or other.left.items other.taken step (subst (λ steps. Contains steps step) left among))
      go step behind (inr (inr earlier)) = inr (inr (more_tried tried more all (run ++ step ∷ []) earlier))

  -- the run of a path at whose end the program is done is one of its runs
  led_runs : (tried : List (List (Step S A))) (run : List (Step S A)) (path : List (Choice L S A)) → IsUnderway tried run path → program (told_by (run ++ steps_of path)) ≡ None → IsRunFrom (CanLead gives) program (told_by run) (state_after start run) (steps_of path)
  led_runs tried run [] was ends = subst (λ r. program (told_by r) ≡ None) (append-nil run) ends
  led_runs tried run (first ∷ path) (is, (steps, given, each, within), rest) ends = (
    first.line,
    is,
    (steps, given, within first.taken (here first.taken first.left.items)),
    subst (λ (s : S). IsRunFrom (CanLead gives) program (told_by run ++ first.taken.answer ∷ []) s (steps_of path)) (state_more start run first.taken)
        (subst (λ answers. IsRunFrom (CanLead gives) program answers (state_after start (run ++ first.taken ∷ [])) (steps_of path)) (told_more run first.taken)
        (led_runs tried (run ++ first.taken ∷ []) path rest (ends_on run first path None ends))),
  )

  -- what holds after each move
  pub record IsCovered (tried : List (List (Step S A))) (path : List (Choice L S A)) : Type 0 where
    pub underway : IsUnderway tried [] path
    pub only : (run : List (Step S A)) → Contains tried run → IsRun (CanLead gives) program start run

  -- the program's next line, by the steps of its path
  by_steps : (path : List (Choice L S A)) (o : Option L) → program (told_on path) ≡ o → program (told_by (steps_of path)) ≡ o
  by_steps path o is = subst (λ answers. program answers ≡ o) (sym (told_same path)) is

  -- what was tried, with one run more, are runs
  newest_too : (tried : List (List (Step S A))) (path : List (Choice L S A)) → IsCovered tried path → program (told_on path) ≡ None → (run : List (Step S A)) → Contains (steps_of path ∷ tried) run → IsRun (CanLead gives) program start run
  newest_too tried path was ends run h = go (first_or (steps_of path) tried run h)
    where
      go : (run ≡ steps_of path) ⊎ Contains tried run → IsRun (CanLead gives) program start run
      go (inl is) = subst (λ r. IsRun (CanLead gives) program start r) (sym is) (led_runs tried [] path was.underway (by_steps path None ends))
      go (inr earlier) = was.only run earlier

  pub covered : (moves : List Move) (tried : List (List (Step S A))) (path : List (Choice L S A)) → IsTried gives program start moves tried path → IsCovered tried path
  covered [] tried path (none, empty) = record {
    underway = subst (λ p. IsUnderway tried [] p) (sym empty) tt;
    only = λ run at. absurd (none_in run (subst (λ runs. Contains runs run) none at));
  }
  covered (Move.Line ∷ before) tried path (old, line, is, asks, (choice, same, given, new)) =
      let was : IsCovered tried old = covered before tried old is in record {
        underway = subst (λ p. IsUnderway tried [] p) (sym new)
            (sent tried [] old choice was.underway (by_steps old (Some choice.line) (asks ∙ ap Some (sym same))) (subst (λ (l : L). gives (state_behind start old) l (choice.left.items ++ choice.taken ∷ [])) (sym same) given));
        only = was.only;
      }
  covered (Move.Next ∷ before) tried path (old, done, is, ends, back, more) =
      let was : IsCovered done old = covered before done old is in
      let all : (r : List (Step S A)) → Contains (steps_of old ∷ done) r → Contains tried r = λ r h. subst (λ runs. Contains runs r) (sym more) h in record {
        underway = turned done tried (λ r h. all r (there (steps_of old) done r h)) [] old path was.underway (by_steps old None ends) back (all (steps_of old) (here (steps_of old) done));
        only = λ run at. newest_too done old was ends run (subst (λ runs. Contains runs run) more at);
      }

  -- where the newest run is over and nothing is left, all was tried
  pub all_tried : (moves : List Move) (tried : List (List (Step S A))) (path : List (Choice L S A)) → IsTried gives program start moves tried path → program (told_on path) ≡ None → IsOver path → AreTried gives program start (steps_of path ∷ tried) []
  all_tried moves tried path is ends over =
      done tried (steps_of path ∷ tried) (λ r h. there (steps_of path) tried r h) [] path ((covered moves tried path is).underway) (by_steps path None ends) over (here (steps_of path) tried)

  -- and nothing else
  pub only_tried : (moves : List Move) (tried : List (List (Step S A))) (path : List (Choice L S A)) → IsTried gives program start moves tried path → program (told_on path) ≡ None → (run : List (Step S A)) → Contains (steps_of path ∷ tried) run → IsRun (CanLead gives) program start run
  only_tried moves tried path is ends = newest_too tried path (covered moves tried path is) ends

  module _ (settled : IsSettled gives) where
    -- a run that goes on from a beginning behind which all was tried was tried
    goes_tried : (tried : List (List (Step S A))) (run rest : List (Step S A)) → AreTried gives program start tried run → IsRunFrom (CanLead gives) program (told_by run) (state_after start run) rest → Contains tried (run ++ rest)
    goes_tried tried run [] (AreTried.Over _ ends at) over = subst (λ r. Contains tried r) (sym (append-nil run)) at
    goes_tried tried run [] (AreTried.GoesOn _ line steps asks given on) over = absurd (none_is_some (program (told_by run)) line over asks)
    goes_tried tried run (step ∷ rest) (AreTried.Over _ ends at) (line, is, led, more) = absurd (none_is_some (program (told_by run)) line ends is)
    goes_tried tried run (step ∷ rest) (AreTried.GoesOn _ other steps asks given on) (line, is, (own, gave, at), more) =
        let same : line ≡ other = same_Some line other (sym is ∙ asks) in
        let among : Contains steps step = settled (state_after start run) other own steps (subst (λ (l : L). gives (state_after start run) l own) same gave) given step at in
        subst (λ r. Contains tried r) (append_assoc run (step ∷ []) rest)
        (goes_tried tried (run ++ step ∷ []) rest (on step among)
        (subst (λ (s : S). IsRunFrom (CanLead gives) program (told_by (run ++ step ∷ [])) s rest) (sym (state_more start run step))
        (subst (λ answers. IsRunFrom (CanLead gives) program answers step.state rest) (sym (told_more run step)) more)))

    -- so the runs that were tried are all
    pub exactly : (tried : List (List (Step S A))) → AreTried gives program start tried [] → ((run : List (Step S A)) → Contains tried run → IsRun (CanLead gives) program start run) → (run : List (Step S A)) → IsRun (CanLead gives) program start run ↔ Contains tried run
    exactly tried all only run = (λ goes. goes_tried tried [] run all goes, λ at. only run at)
