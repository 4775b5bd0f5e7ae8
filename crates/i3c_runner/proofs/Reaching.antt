-- The steps of a script's lines are a legal run.
use Rattle.std.proofs.Common.{◌≡◌, ◌∙◌, ℕ, Bool, true, false, List, [], ◌∷◌, ◌++◌, Option, ap, append_assoc, append-nil, inl, inr, refl, subst, sym}
use Rattle.i3c_lines.specs.declared.refusals.Refusal.{Refusal}
use Rattle.i3c_script.specs.declared.stage.Stage.{Stage}
use Rattle.i3c_script.specs.Leading.{AreLegalBehind}
use Rattle.i3c_script.specs.Making.{Made}
use Rattle.i3c_script.specs.Obeying.{IsBegun, ScriptState}
use Rattle.i3c_script.specs.Situations.{Situation, Told}
use Rattle.i3c_script.specs.Printed.{pieces_text}
use Rattle.i3c_script.proofs.Reaching.{IsSound, at_on}
use Rattle.i3c_facts.specs.declared.facts.Claim.{Claim}
use Rattle.i3c_facts.specs.declared.marks.Mark.{Mark}
use Rattle.i3c_runner.specs.Expecting.{AlwaysAt, HasBegun, LastsAt, MarkDoes, Standing, TestsAt, counted, lasting_from, went}
use Rattle.i3c_runner.specs.declared.lasting.Lasting.{Lasting}
use Rattle.i3c_runner.specs.Legal.{counted_made, line_made, lines_made, script_made}
use Rattle.i3c_runner.specs.Scripts.{CountedRuns, Lead, LineDoes, LineRun, LinesLead}

-- a line without a command leads nowhere
stays : (steps : List Made) (old new : ScriptState) → IsSound steps old.stage → new ≡ old → IsSound (steps ++ []) new.stage
stays steps old new s same = subst (λ more. IsSound more new.stage) (sym (append-nil steps)) (subst (λ (state : ScriptState). IsSound steps state.stage) (sym same) s)

line_on : (steps : List Made) (old : ScriptState) (line said : List ℕ) (refused : Option Refusal) (new : ScriptState) → IsSound steps old.stage → (h : LineDoes old line said refused new) → IsSound (steps ++ line_made old line said refused new h) new.stage
line_on steps old line said refused new s (inl (form, none, why, same)) = stays steps old new s same
line_on steps old line said refused new s (inr (inl (skipped, none, why, same))) = stays steps old new s same
line_on steps old line said refused new s (inr (inr (command, asks, obeys))) = at_on steps old.stage old.names command said refused new s obeys

lines_on : (steps : List Made) (old : ScriptState) (lines : List LineRun) (new : ScriptState) → IsSound steps old.stage → (h : Lead old lines new) → IsSound (steps ++ lines_made old lines new h) new.stage
lines_on steps old [] new s same = stays steps old new s same
lines_on steps old (run ∷ rest) new s (mid, is, lead) =
    let here = line_made old run.line run.said run.refused mid is.does in
    subst (λ all. IsSound all new.stage) (append_assoc steps here (lines_made mid rest new lead))
    (lines_on (steps ++ here) mid rest new (line_on steps old run.line run.said run.refused mid s is.does) lead)

pub reached : (old : ScriptState) (lines : List LineRun) (new : ScriptState) (ran : Situation Told) → IsBegun old → (lead : Lead old lines new) → new.stage ≡ Stage.Running ran → AreLegalBehind (lines_made old lines new lead) ran
reached old lines new ran begun lead is =
    subst (IsSound (lines_made old lines new lead)) is (lines_on [] old lines new (subst (IsSound []) (sym begun.stage) refl) lead)

-- an expectation leads nowhere
tests_stay : (now : Standing) (stage : Stage) (facts : List Claim) (said : List ℕ) (refused : Option Refusal) (new : Standing) → TestsAt now stage facts said refused new → new.script ≡ now.script
tests_stay now (Stage.Before board) facts said refused new (none, why, same) = ap (λ s. s.script) same
tests_stay now (Stage.Running ran) facts said refused new (text, why, same) = ap (λ s. s.script) same

-- a lasting expectation leads nowhere
from_stays : (now : Standing) (one : Lasting) (holds : Bool) → (lasting_from now one holds).script ≡ now.script
from_stays now one true = refl
from_stays now one false = refl

always_stays : (now : Standing) (stage : Stage) (facts : List Claim) (said : List ℕ) (refused : Option Refusal) (new : Standing) → AlwaysAt now stage facts said refused new → new.script ≡ now.script
always_stays now (Stage.Before board) facts said refused new (none, why, same) = ap (λ s. s.script) same
always_stays now (Stage.Running ran) facts said refused new (text, why, same) = ap (λ s. s.script) same ∙ from_stays now _ _

lasts_stay : (now : Standing) (stage : Stage) (told : List ℕ) (new : Standing) → LastsAt now stage told new → new.script ≡ now.script
lasts_stay now (Stage.Before board) told new (none, same) = ap (λ s. s.script) same
lasts_stay now (Stage.Running ran) told new (text, same) = ap (λ s. s.script) same

-- another mark leads nowhere
mark_stays : (now : Standing) (mark : Mark) (said : List ℕ) (refused : Option Refusal) (new : Standing) → MarkDoes now mark said refused new → new.script ≡ now.script
mark_stays now Mark.Any said refused new (none, why, same) = ap (λ s. s.script) same
mark_stays now (Mark.Anywhere name) said refused new (none, why, same) = ap (λ s. s.script) same
mark_stays now (Mark.Always facts) said refused new always = always_stays now now.script.stage facts said refused new always
mark_stays now Mark.Track said refused new (none, why, same) = ap (λ s. s.script) same
mark_stays now Mark.Close said refused new (none, why, same) = ap (λ s. s.script) same
mark_stays now (Mark.Expect facts) said refused new tests = tests_stay now now.script.stage facts said refused new tests

counted_on : (steps : List Made) (now : Standing) (line said : List ℕ) (refused : Option Refusal) (new : Standing) → IsSound steps now.script.stage → (h : CountedRuns now line said refused new)
    → IsSound (steps ++ counted_made now line said refused new h) new.script.stage
counted_on steps now line said refused new s (inl (bad, none, why, same)) = stays steps now.script new.script s (ap (λ s. s.script) same)
counted_on steps now line said refused new s (inr (inl (skipped, none, why, same))) = stays steps now.script new.script s (ap (λ s. s.script) same)
counted_on steps now line said refused new s (inr (inr (inl (mark, is, does)))) = stays steps now.script new.script s (mark_stays now mark said refused new does)
counted_on steps now line said refused new s (inr (inr (inr (command, state, pieces, told, asks, comes, text, lasts)))) =
    subst (λ (script : ScriptState). IsSound (steps ++ counted_made now line said refused new (inr (inr (inr (command, state, pieces, told, asks, comes, text, lasts))))) script.stage)
    (sym (lasts_stay (went now state pieces refused) state.stage told new lasts)) (at_on steps now.script.stage now.script.names command (pieces_text pieces) refused state s (pieces, comes, refl))

script_on : (steps : List Made) (old : Standing) (lines : List LineRun) (new : Standing) → IsSound steps old.script.stage → (h : LinesLead old lines new) → IsSound (steps ++ script_made old lines new h) new.script.stage
script_on steps old [] new s same = stays steps old.script new.script s (ap (λ s. s.script) same)
script_on steps old (run ∷ rest) new s (mid, is, lead) =
    let here = counted_made (counted old) run.line run.said run.refused mid is.does in
    subst (λ all. IsSound all new.script.stage) (append_assoc steps here (script_made mid rest new lead))
    (script_on (steps ++ here) mid rest new (counted_on steps (counted old) run.line run.said run.refused mid s is.does) lead)

pub script_reached : (old : Standing) (lines : List LineRun) (new : Standing) (ran : Situation Told) → HasBegun old → (lead : LinesLead old lines new) → new.script.stage ≡ Stage.Running ran → AreLegalBehind (script_made old lines new lead) ran
script_reached old lines new ran begun lead is =
    subst (IsSound (script_made old lines new lead)) is (script_on [] old lines new (subst (IsSound []) (sym begun.script.stage) refl) lead)
