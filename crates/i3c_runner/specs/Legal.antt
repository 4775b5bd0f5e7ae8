-- What the lines of a script make of the bus.
use Rattle.std.specs.Prelude.{◌≡◌, ℕ, List, [], ◌∷◌, ◌++◌, Option}
use Rattle.std.proofs.Common.{inl, inr, refl}
use Rattle.i3c_lines.specs.declared.refusals.Refusal.{Refusal}
use Rattle.i3c_script.specs.declared.stage.Stage.{Stage}
use Rattle.i3c_script.specs.Leading.{AreLegalBehind}
use Rattle.i3c_script.specs.Making.{Made, command_made}
use Rattle.i3c_script.specs.Obeying.{IsBegun, ScriptState}
use Rattle.i3c_script.specs.Printed.{pieces_text}
use Rattle.i3c_script.specs.Situations.{Situation, Told}
use Rattle.i3c_runner.specs.Expecting.{HasBegun, Standing, counted}
use Rattle.i3c_runner.specs.Scripts.{CountedRuns, Lead, LineDoes, LineRun, LinesLead}

-- the steps of the bus that a line is: those of its command, and none without one
abbrev pub line_made : (old : ScriptState) (line said : List ℕ) (refused : Option Refusal) (new : ScriptState) → LineDoes old line said refused new → List Made
line_made old line said refused new (inl bad) = []
line_made old line said refused new (inr (inl skipped)) = []
line_made old line said refused new (inr (inr (command, asks, obeys))) = command_made old.stage old.names command said refused new obeys

-- the steps that lines are, in order
abbrev pub lines_made : (old : ScriptState) (lines : List LineRun) (new : ScriptState) → Lead old lines new → List Made
lines_made old [] new same = []
lines_made old (run ∷ rest) new (mid, is, lead) = line_made old run.line run.said run.refused mid is.does ++ lines_made mid rest new lead

-- the same of a line of a script: a mark is no step
abbrev pub counted_made : (now : Standing) (line said : List ℕ) (refused : Option Refusal) (new : Standing) → CountedRuns now line said refused new → List Made
counted_made now line said refused new (inl bad) = []
counted_made now line said refused new (inr (inl skipped)) = []
counted_made now line said refused new (inr (inr (inl mark))) = []
counted_made now line said refused new (inr (inr (inr (command, state, pieces, told, asks, comes, text, lasts)))) =
    command_made now.script.stage now.script.names command (pieces_text pieces) refused state (pieces, comes, refl)

-- the steps that lines of a script are, in order
abbrev pub script_made : (old : Standing) (lines : List LineRun) (new : Standing) → LinesLead old lines new → List Made
script_made old [] new same = []
script_made old (run ∷ rest) new (mid, is, lead) = counted_made (counted old) run.line run.said run.refused mid is.does ++ script_made mid rest new lead

-- Wherever lines of commands alone lead from a script's start to a bus, their steps are a legal run to that bus with its whole log.
abbrev pub CommandsAreLegalRuns : Type 0
CommandsAreLegalRuns = (old : ScriptState) (lines : List LineRun) (new : ScriptState) (ran : Situation Told) → IsBegun old → (lead : Lead old lines new) → new.stage ≡ Stage.Running ran → AreLegalBehind (lines_made old lines new lead) ran

-- Wherever lines of a script lead from its start to a bus, their steps are a legal run to that bus with its whole log.
abbrev pub LinesAreLegalRuns : Type 0
LinesAreLegalRuns = (old : Standing) (lines : List LineRun) (new : Standing) (ran : Situation Told) → HasBegun old → (lead : LinesLead old lines new) → new.script.stage ≡ Stage.Running ran → AreLegalBehind (script_made old lines new lead) ran
