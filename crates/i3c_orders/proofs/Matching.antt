-- Each run that a program may have is matched by those that were tried.
use Rattle.std.proofs.Common.{◌≡◌, ◌⊎◌, inl, inr, List, [], ◌∷◌, ◌++◌, All, Contains, Option, None, Some, ap, refl, sym, subst, ◌∙◌}
use Rattle.std.proofs.lemmas.List.{append_assoc, append-nil}
use Rattle.std.proofs.lemmas.List.Elements.{All-cons, All-nil}
use Rattle.std.proofs.lemmas.Option.{same_Some}
use Rattle.i3c_orders.specs.declared.choice.Choice.{Choice}
use Rattle.i3c_orders.specs.declared.choice.Step.{Step}
use Rattle.i3c_orders.specs.Marks.{AreCovered, AreFollowed, AreMarked, Begins, GoesOn, GoesOnElsewhere, IsKnown, IsMatched, IsPreorder, Turn}
use Rattle.i3c_orders.specs.Paths.{IsOver, steps_of}
use Rattle.i3c_orders.specs.Runs.{IsRun, IsRunFrom, state_after, told_by}
use Rattle.i3c_orders.proofs.Marking.{all_covered, goes_behind}
use Rattle.i3c_orders.proofs.Trying.{here, none_is_some, state_more, there, told_more}

-- the answers of a run, of one step more, and then others
told_on : {S A : Type 0} (run : List (Step S A)) (step : Step S A) (more : List A) → told_by (run ++ step ∷ []) ++ more ≡ told_by run ++ step.answer ∷ more
told_on run step more = ap (λ told. told ++ more) (told_more run step) ∙ append_assoc (told_by run) (step.answer ∷ []) more

-- the answer of a step is told in a run that has it
told_in : {S A : Type 0} (run : List (Step S A)) (step : Step S A) (rest : List (Step S A)) → Contains (told_by ((run ++ step ∷ []) ++ rest)) step.answer
told_in [] step rest = here step.answer (told_by rest)
told_in (first ∷ run) step rest = there first.answer (told_by ((run ++ step ∷ []) ++ rest)) step.answer (told_in run step rest)

module _ {L S A : Type 0} (gives : S → L → List (Step S A) → Type 0) (alike : S → S → Type 0) (leads : S → L → A → S → Type 0) (program : List A → Option L) (start : S) (tried : List (List (Step S A))) (same : IsPreorder alike) (followed : AreFollowed gives alike leads) where
  -- behind a run and behind these answers the program goes on alike
  abbrev Agrees : List (Step S A) → List A → Type 0
  Agrees run told = (more : List A) → program (told_by run ++ more) ≡ program (told ++ more)

  now : (run : List (Step S A)) (told : List A) → Agrees run told → program (told_by run) ≡ program told
  now run told agrees = ap program (sym (append-nil (told_by run))) ∙ agrees [] ∙ ap program (append-nil told)

  -- a run that was tried goes on with an answer, from answers and a state that it matches
  record IsNext (told : List A) (step : Step S A) : Type 0 where
    run : List (Step S A)
    begins : Begins tried run
    like : alike (state_after start run) step.state
    agrees : Agrees run (told ++ step.answer ∷ [])
    answered : (one : List (Step S A)) × Contains tried one × Contains (told_by one) step.answer

  goes_next : (base : List (Step S A)) (told : List A) (state : S) (step : Step S A) (line : L) → GoesOn gives program start tried base → alike (state_after start base) state → Agrees base told → program told ≡ Some line → leads state line step.answer step.state
      → IsNext told step
  goes_next base told state step line on like agrees asks led =
      let own : on.line ≡ line = same_Some on.line line (sym on.asks ∙ now base told agrees ∙ asks) in
      let (next, at, answer, close) = followed state (state_after start base) line step.answer step.state on.steps like led (subst (λ (l : L). gives (state_after start base) l on.steps) own on.given) in
      let (rest, among) = on.each next at in record {
        run = base ++ next ∷ [];
        begins = (rest, among);
        like = subst (λ (s : S). alike s step.state) (sym (state_more start base next)) close;
        agrees = λ more. ap program (told_on base next more) ∙ agrees (next.answer ∷ more) ∙ ap (λ (a : A). program (told ++ a ∷ more)) answer ∙ ap program (sym (append_assoc told (step.answer ∷ []) more));
        answered = ((base ++ next ∷ []) ++ rest, among, subst (λ (a : A). Contains (told_by ((base ++ next ∷ []) ++ rest)) a) answer (told_in base next rest));
      }

  -- what is left of a run is matched
  record IsMatchedFrom (state : S) (rest : List (Step S A)) : Type 0 where
    other : List (Step S A)
    among : Contains tried other
    over : program (told_by other) ≡ None
    ends : alike (state_after start other) (state_after state rest)
    told : All (λ step. (one : List (Step S A)) × Contains tried one × Contains (told_by one) step.answer) rest

  module _ (covered : AreCovered gives alike program start tried) (behind : (run : List (Step S A)) (step : Step S A) → Begins tried (run ++ step ∷ []) → GoesOn gives program start tried run) where
    next : (run : List (Step S A)) (told : List A) (state : S) (step : Step S A) (line : L) → Begins tried run → alike (state_after start run) state → Agrees run told → program told ≡ Some line → leads state line step.answer step.state → IsNext told step
    next run told state step line begins like agrees asks led = go (covered run begins)
      where
        go : (program (told_by run) ≡ None) ⊎ (GoesOn gives program start tried run ⊎ GoesOnElsewhere gives alike program start tried run) → IsNext told step
        go (inl ends) = absurd (none_is_some (program told) line (sym (now run told agrees) ∙ ends) asks)
        go (inr (inl on)) = goes_next run told state step line on like agrees asks led
        go (inr (inr away)) =
            goes_next away.other told state step line away.on (same.transitive (state_after start away.other) (state_after start run) state away.same like) (λ more. away.futures more ∙ agrees more) asks led

    -- where the program's run is over, a run that was tried goes no further
    whole : (run rest : List (Step S A)) → Contains tried (run ++ rest) → program (told_by run) ≡ None → Contains tried run
    whole run [] at ends = subst (λ r. Contains tried r) (append-nil run) at
    whole run (step ∷ rest) at ends =
        let on : GoesOn gives program start tried run = behind run step (rest, subst (λ r. Contains tried r) (sym (append_assoc run (step ∷ []) rest)) at) in
        absurd (none_is_some (program (told_by run)) on.line ends on.asks)

    matched_from : (run : List (Step S A)) (told : List A) (state : S) (rest : List (Step S A)) → Begins tried run → alike (state_after start run) state → Agrees run told → IsRunFrom leads program told state rest → IsMatchedFrom state rest
    matched_from run told state [] (later, at) like agrees over =
        let ends : program (told_by run) ≡ None = now run told agrees ∙ over in
        record { other = run; among = whole run later at ends; over = ends; ends = like; told = All-nil (λ (step : Step S A). (one : List (Step S A)) × Contains tried one × Contains (told_by one) step.answer) }
    matched_from run told state (step ∷ rest) begins like agrees (line, asks, led, goes) =
        let to : IsNext told step = next run told state step line begins like agrees asks led in
        let longer : IsMatchedFrom step.state rest = matched_from to.run (told ++ step.answer ∷ []) step.state rest to.begins to.like to.agrees goes in
        record { other = longer.other; among = longer.among; over = longer.over; ends = longer.ends; told = All-cons (λ (s : Step S A). (one : List (Step S A)) × Contains tried one × Contains (told_by one) s.answer) step rest to.answered longer.told }

    matched : Begins tried [] → (run : List (Step S A)) → IsRun leads program start run → IsMatched alike program start tried run
    matched begins run is =
        let found : IsMatchedFrom start run = matched_from [] [] start run begins (same.reflexive start) (λ more. refl) is in record { other = found.other; among = found.among; over = found.over; same = found.ends; told = found.told }

-- where the newest run is over or left and nothing is left on its path, each run that the program may have is matched
pub all_matched : {L S A : Type 0} (gives : S → L → List (Step S A) → Type 0) (alike : S → S → Type 0) (leads : S → L → A → S → Type 0) (program : List A → Option L) (start : S) → IsPreorder alike → AreFollowed gives alike leads
    → (turns : List Turn) (tried : List (List (Step S A))) (path : List (Choice L S A)) → AreMarked gives alike program start turns tried path → IsOver path
    → (program (told_by (steps_of path)) ≡ None) ⊎ IsKnown alike program start (steps_of path ∷ tried) (steps_of path) → (run : List (Step S A)) → IsRun leads program start run → IsMatched alike program start (steps_of path ∷ tried) run
all_matched gives alike leads program start same followed turns tried path is over why run goes =
    matched gives alike leads program start (steps_of path ∷ tried) same followed (all_covered gives alike program start turns tried path is over why) (goes_behind gives alike program start turns tried path is over) (steps_of path, here (steps_of path) tried) run goes
