-- Expectations that last, tested one after another.
use Rattle.std.proofs.Common.{◌≡◌, ◌∙◌, ℕ, Bool, true, false, List, [], ◌∷◌, ◌++◌, ap, append_assoc, append-nil, refl, sym}
use Rattle.i3c_base.specs.State.{State}
use Rattle.i3c_facts.specs.declared.before.Before.{Before}
use Rattle.i3c_lines.specs.declared.names.Names.{Names}
use Rattle.i3c_runner.specs.declared.lasting.Lasting.{Lasting}
use Rattle.i3c_runner.specs.Expecting.{is_met, lasting_line, lasting_text, lasts_if, still_lasting, unmet_if, unmet_with}

-- what is told of one more
pub told_more : (st : State) (names : Names) (before : Before) (all : List Lasting) (one : Lasting)
    → lasting_text st names before (all ++ one ∷ []) ≡ lasting_text st names before all ++ lasting_line st names before one (is_met st names before one.facts)
told_more st names before [] one = append-nil (lasting_line st names before one (is_met st names before one.facts))
told_more st names before (first ∷ rest) one =
    let line = lasting_line st names before first (is_met st names before first.facts) in
    ap (λ text. line ++ text) (told_more st names before rest one) ∙ sym (append_assoc line (lasting_text st names before rest) (lasting_line st names before one (is_met st names before one.facts)))

lasts_before : (holds : Bool) (one : Lasting) (a b : List Lasting) → lasts_if holds one (a ++ b) ≡ lasts_if holds one a ++ b
lasts_before true one a b = refl
lasts_before false one a b = refl

-- which of one more still last
pub still_more : (st : State) (names : Names) (before : Before) (all : List Lasting) (one : Lasting)
    → still_lasting st names before (all ++ one ∷ []) ≡ still_lasting st names before all ++ lasts_if (is_met st names before one.facts) one []
still_more st names before [] one = refl
still_more st names before (first ∷ rest) one =
    let holds = is_met st names before first.facts in
    ap (lasts_if holds first) (still_more st names before rest one) ∙ lasts_before holds first (still_lasting st names before rest) (lasts_if (is_met st names before one.facts) one [])

-- how many aren't met of one more
pub unmet_more : (st : State) (names : Names) (before : Before) (all : List Lasting) (one : Lasting) (unmet : ℕ)
    → unmet_with st names before (all ++ one ∷ []) unmet ≡ unmet_if (is_met st names before one.facts) (unmet_with st names before all unmet)
unmet_more st names before [] one unmet = refl
unmet_more st names before (first ∷ rest) one unmet = unmet_more st names before rest one (unmet_if (is_met st names before first.facts) unmet)

-- one more was tested: which last
pub still_tested : (st : State) (names : Names) (before : Before) (all : List Lasting) (one : Lasting) (still new : List Lasting) (holds : Bool)
    → holds ≡ is_met st names before one.facts → still ≡ still_lasting st names before all → new ≡ still ++ lasts_if holds one [] → new ≡ still_lasting st names before (all ++ one ∷ [])
still_tested st names before all one still new holds same so_far more =
    more ∙ ap (λ l. l ++ lasts_if holds one []) so_far ∙ ap (λ h. still_lasting st names before all ++ lasts_if h one []) same ∙ sym (still_more st names before all one)

-- the text that the tests told
pub told_tested : (st : State) (names : Names) (before : Before) (all : List Lasting) (one : Lasting) (old text new : List ℕ) (holds : Bool)
    → holds ≡ is_met st names before one.facts → text ≡ old ++ lasting_text st names before all → new ≡ text ++ lasting_line st names before one holds → new ≡ old ++ lasting_text st names before (all ++ one ∷ [])
told_tested st names before all one old text new holds same so_far more =
    let told = lasting_text st names before all in
    more ∙ ap (λ t. t ++ lasting_line st names before one holds) so_far ∙ append_assoc old told (lasting_line st names before one holds)
    ∙ ap (λ h. old ++ (told ++ lasting_line st names before one h)) same ∙ ap (λ t. old ++ t) (sym (told_more st names before all one))

-- how many aren't met
pub unmet_tested : (st : State) (names : Names) (before : Before) (all : List Lasting) (one : Lasting) (old unmet new : ℕ) (holds : Bool)
    → holds ≡ is_met st names before one.facts → unmet ≡ unmet_with st names before all old → new ≡ unmet_if holds unmet → new ≡ unmet_with st names before (all ++ one ∷ []) old
unmet_tested st names before all one old unmet new holds same so_far more =
    more ∙ ap (unmet_if holds) so_far ∙ ap (λ h. unmet_if h (unmet_with st names before all old)) same ∙ sym (unmet_more st names before all one old)
