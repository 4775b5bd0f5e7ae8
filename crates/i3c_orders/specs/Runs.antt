-- The runs of a program that is answered by a machine.
use Rattle.std.specs.Prelude.{◌≡◌, ◌↔◌, List, [], ◌∷◌, ◌++◌, Contains, Option, None, Some, map}
use Rattle.i3c_orders.specs.declared.choice.Step.{Step}

-- A program says what it sends next, by the answers that it got in this run: a line, or nothing, where its run is over.

-- the answers of a run
abbrev pub told_by : {S A : Type 0} → List (Step S A) → List A
told_by run = map (λ step. step.answer) run

-- the state behind a run
abbrev pub state_after : {S A : Type 0} → S → List (Step S A) → S
state_after start [] = start
state_after start (step ∷ run) = state_after step.state run

-- all that begins as this run was tried: the program's run is over here, and was tried; or the program sends a line, which is given answers, and all that goes on with one of these was tried
pub data AreTried {L S A : Type 0} (gives : S → L → List (Step S A) → Type 0) (program : List A → Option L) (start : S) (tried : List (List (Step S A))) : List (Step S A) → Type 0 where
  Over : (run : List (Step S A)) → program (told_by run) ≡ None → Contains tried run → AreTried gives program start tried run
  GoesOn : (run : List (Step S A)) (line : L) (steps : List (Step S A)) → program (told_by run) ≡ Some line → gives (state_after start run) line steps
      → ((step : Step S A) → Contains steps step → AreTried gives program start tried (run ++ step ∷ [])) → AreTried gives program start tried run

-- a machine may give a line this answer, among others, with the state to which that leads
abbrev pub CanLead : {L S A : Type 0} → (S → L → List (Step S A) → Type 0) → S → L → A → S → Type 0
CanLead {L} {S} {A} gives state line answer new = (steps : List (Step S A)) × gives state line steps × Contains steps (record { answer = answer; state = new })

-- all that a line may be answered, and nothing else
abbrev pub AreAll : {S L A : Type 0} → (S → L → A → S → Type 0) → S → L → List (Step S A) → Type 0
AreAll {S} {L} {A} leads state line steps = (step : Step S A) → leads state line step.answer step.state ↔ Contains steps step

-- a machine always gives a line the same answers in a state
abbrev pub IsSettled : {S L A : Type 0} → (S → L → List (Step S A) → Type 0) → Type 0
IsSettled {S} {L} {A} gives = (state : S) (line : L) (one other : List (Step S A)) → gives state line one → gives state line other → (step : Step S A) → Contains one step → Contains other step

-- a whole run from a state, behind these answers: the program sends its line, is answered, and goes on, until its run is over
abbrev pub IsRunFrom : {S L A : Type 0} → (S → L → A → S → Type 0) → (List A → Option L) → List A → S → List (Step S A) → Type 0
IsRunFrom leads program told state [] = program told ≡ None
IsRunFrom {S} {L} leads program told state (step ∷ run) =
    (line : L) × (program told ≡ Some line) × leads state line step.answer step.state × IsRunFrom leads program (told ++ step.answer ∷ []) step.state run

-- a whole run of a program
abbrev pub IsRun : {S L A : Type 0} → (S → L → A → S → Type 0) → (List A → Option L) → S → List (Step S A) → Type 0
IsRun leads program start run = IsRunFrom leads program [] start run
