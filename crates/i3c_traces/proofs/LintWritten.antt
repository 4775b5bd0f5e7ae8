-- What goes out of a trace with its faults.
use Rattle.std.proofs.Common.{◌≡◌, ◌∙◌, ℕ, ◌+◌, List, [], ◌∷◌, ◌++◌, length, map, arith, inr, Option, MatchResult, OnOk, Result, Ok, Err, ap, append_assoc, min, refl}
use Rattle.std.proofs.lemmas.Grind.{flat_map-append}
use Rattle.std.specs.Io.KnownBytes.{Appends}
use Rattle.i3c_frame.specs.declared.frames.Frames.{Frames}
use Rattle.i3c_frame.specs.declared.symbols.Symbol.{Symbol}
use Rattle.i3c_wave.specs.declared.captured.FrameMark.{FrameMark}
use Rattle.i3c_monitor.specs.declared.lint_fault.LintFault.{LintFault}
use Rattle.i3c_monitor.specs.declared.report.Report.{Report}
use Rattle.i3c_monitor.specs.Lint.{LintLine}
use Rattle.i3c_monitor.specs.Lint.LintLine.{Faulty}
use Rattle.i3c_monitor.specs.LintLines.{lint_line_text, lint_text}
use Rattle.i3c_monitor.specs.Linting.{report_lines}
use Rattle.i3c_streams.specs.declared.faults.ScriptFault.{ScriptFault}
use Rattle.i3c_streams.specs.declared.tally.Tally.{Tally}
use Rattle.i3c_streams.specs.Faults.{IsLineFault}
use Rattle.i3c_traces.specs.Linted.{AreLinted, all_faults, faults_in, frames_faults, frames_text}
use Rattle.i3c_streams.specs.Outcomes.{AppendsSome}
use Rattle.i3c_traces.specs.Traces.{Goes}
use Rattle.i3c_streams.proofs.WrittenOn.{count_on, gathered_on}

-- three texts, one behind the other, if the last was pushed
pub three : {E : Type 0} → (r : Result (Unit {0}) E) (t a b c x1 x2 x3 : List ℕ) → x1 ≡ t ++ a → x2 ≡ x1 ++ b → OnOk r (x3 ≡ x2 ++ c) → OnOk r (x3 ≡ t ++ (a ++ (b ++ c)))
three (Ok done) t a b c x1 x2 x3 e1 e2 e3 = e3 ∙ ap (λ x. x ++ c) (e2 ∙ ap (λ x. x ++ b) e1) ∙ append_assoc (t ++ a) b c ∙ append_assoc t a (b ++ c)
three (Err e) t a b c x1 x2 x3 e1 e2 e3 = tt

pub four : {E : Type 0} → (r : Result (Unit {0}) E) (t a b c d x1 x2 x3 x4 : List ℕ) → x1 ≡ t ++ a → x2 ≡ x1 ++ b → x3 ≡ x2 ++ c → OnOk r (x4 ≡ x3 ++ d)
    → OnOk r (x4 ≡ t ++ (a ++ (b ++ (c ++ d))))
four (Ok done) t a b c d x1 x2 x3 x4 e1 e2 e3 e4 =
    e4 ∙ ap (λ x. x ++ d) (e3 ∙ ap (λ x. x ++ c) (e2 ∙ ap (λ x. x ++ b) e1))
    ∙ append_assoc ((t ++ a) ++ b) c d ∙ append_assoc (t ++ a) b (c ++ d) ∙ append_assoc t a (b ++ (c ++ d))
four (Err e) t a b c d x1 x2 x3 x4 e1 e2 e3 e4 = tt

-- the lines of a report are gathered behind what went out and a text
pub reported_on : (trace : List Symbol) (marks : List FrameMark) (all first text tail : List ℕ) (come lines rest : List LintLine) → come ≡ lines ++ rest
    → all ≡ first ++ (text ++ (lint_text trace marks come ++ tail)) → all ≡ first ++ ((text ++ lint_text trace marks lines) ++ (lint_text trace marks rest ++ tail))
reported_on trace marks all first text tail come lines rest is told =
    gathered_on all first text (lint_text trace marks lines) (lint_text trace marks rest ++ tail)
    (told ∙ ap (λ lines. first ++ (text ++ (lint_text trace marks lines ++ tail))) is
    ∙ ap (λ lines. first ++ (text ++ (lines ++ tail))) (flat_map-append (lint_line_text trace marks) lines rest)
    ∙ ap (λ rest. first ++ (text ++ rest)) (append_assoc (lint_text trace marks lines) (lint_text trace marks rest) tail))

-- where nothing is left but what follows the frames
pub ended_on : (trace : List Symbol) (marks : List FrameMark) (all first text tail : List ℕ) (come : List LintLine) → come ≡ [] → all ≡ first ++ (text ++ (lint_text trace marks come ++ tail)) → all ≡ first ++ (text ++ tail)
ended_on trace marks all first text tail come none told = told ∙ ap (λ lines. first ++ (text ++ (lint_text trace marks lines ++ tail))) none

faulty_all : (marks : List FrameMark) (faults : List LintFault) → all_faults marks (map Faulty faults) ≡ length faults
faulty_all marks [] = refl
faulty_all marks (fault ∷ rest) = let h : all_faults marks (map Faulty rest) ≡ length rest = faulty_all marks rest in omega (arith, h)

all_faults-append : (marks : List FrameMark) (lines rest : List LintLine) → all_faults marks (lines ++ rest) ≡ all_faults marks lines + all_faults marks rest
all_faults-append marks [] rest = omega arith
all_faults-append marks (line ∷ lines) rest = let h : all_faults marks (lines ++ rest) ≡ all_faults marks lines + all_faults marks rest = all_faults-append marks lines rest in omega (arith, h)

reported_all : (marks : List FrameMark) (report : Report) → all_faults marks (report_lines report) ≡ faults_in marks report
reported_all marks (Report.Decoded decoded) = omega arith
reported_all marks (Report.Faults faults) = faulty_all marks faults.items

-- the faults of a report are counted as far as a number goes
pub counted_on : (marks : List FrameMark) (counted next broken : ℕ) (come : List LintLine) (report : Report) (rest : List LintLine) → come ≡ report_lines report ++ rest
    → next ≡ min (counted + faults_in marks report) 18446744073709551615
    → min (counted + (all_faults marks come + broken)) 18446744073709551615 ≡ min (next + (all_faults marks rest + broken)) 18446744073709551615
counted_on marks counted next broken come report rest is counts =
    let more : all_faults marks come ≡ all_faults marks (report_lines report) + all_faults marks rest = ap (all_faults marks) is ∙ all_faults-append marks (report_lines report) rest in
    let sum : all_faults marks come + broken ≡ faults_in marks report + (all_faults marks rest + broken) = omega (arith, more, reported_all marks report) in
    ap (λ n. min (counted + n) 18446744073709551615) sum ∙ count_on counted (faults_in marks report) next (all_faults marks rest + broken) counts

-- frames that were told
pub linted_out : (legacies : ℕ) (frames : Frames) (marks : List FrameMark) (old new : Option (List ℕ)) (result : Result Tally ScriptFault)
    → MatchResult result (λ tally. (tally.refused ≡ min (frames_faults legacies frames marks) 18446744073709551615) × Appends old new (frames_text legacies frames marks))
    (λ fault. IsLineFault fault × AppendsSome old new (frames_text legacies frames marks))
    → Goes (AreLinted legacies frames marks) old new result
linted_out legacies frames marks old new (Ok tally) tells = (frames_text legacies frames marks, (refl, tells.0), tells.1)
linted_out legacies frames marks old new (Err fault) tells = inr (frames_text legacies frames marks, min (frames_faults legacies frames marks) 18446744073709551615, (refl, refl), tells.1)
