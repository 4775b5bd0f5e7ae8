-- The run of a viewed script, line by line.
use Rattle.std.proofs.Common.{◌≡◌, ◌⊎◌, ◌∙◌, ℕ, ◌+◌, List, [], ◌∷◌, ◌++◌, min, Option, IfSome, OnOk, Result, Ok, Err, ap, append_assoc, inl, inr, refl, subst, sym}
use Rattle.i3c_frame.specs.declared.symbols.Symbol.{Symbol}
use Rattle.i3c_lines.specs.declared.refusals.Refusal.{Refusal}
use Rattle.i3c_text.specs.declared.line_error.LineError.{LineError}
use Rattle.i3c_script.specs.Obeying.{wire_on}
use Rattle.i3c_script.specs.Printed.{end_text}
use Rattle.i3c_script.specs.Stops.{refusals}
use Rattle.i3c_streams.specs.declared.faults.ScriptFault.{ScriptFault}
use Rattle.i3c_streams.specs.declared.script_lines.ScriptLines.{ScriptLines}
use Rattle.i3c_streams.specs.Lines.{GivesLine, IsGivenOut, IsReadFrom, given, line_in_hand}
use Rattle.i3c_streams.specs.Outcomes.{HasNoFeed}
use Rattle.i3c_runner.specs.Scripts.{LineRuns}
use Rattle.i3c_runner.specs.ScriptSteps.{Progress}
use Rattle.i3c_runner.specs.Viewed.{AreRun, AreSeen, Fails, LineFailed, LineRan, LineViewed, Shown, ViewedEnds, ViewedPart, ViewedWhole, Views, bytes_of, kept}
use Rattle.i3c_streams.proofs.LinesRead.{all_given, first_given}
use Rattle.i3c_streams.proofs.BytesRead.{none_read, script_is, unread}
use Rattle.i3c_runner.proofs.ScriptRuns.{its_refusals, its_text, refusal_in}

-- the lines that were run and shown so far
pub record ViewedSoFar {V : Type 0} (gives : Views V) (known now : Option (List ℕ)) (reader : ScriptLines) (old new : V) (from to : Progress) : Type 0 where
  pub lines : List Shown
  pub run : AreRun from lines to
  pub seen : AreSeen gives old lines new
  pub bytes : given reader ≡ bytes_of lines
  pub read : IsReadFrom known now reader

-- lines, and then one more
run_more : (lines : List Shown) (shown : Shown) (from at to : Progress) → AreRun from lines at → HasNoFeed shown.line → LineRan shown.line shown.printed shown.wire at to → AreRun from (lines ++ shown ∷ []) to
run_more [] shown from at to run one ran = (to, one, subst (λ p. LineRan shown.line shown.printed shown.wire p to) run ran, refl)
run_more (first ∷ lines) shown from at to run one ran = (run.0, run.1, run.2, run_more lines shown run.0 at to run.3 one ran)

seen_more : {V : Type 0} (gives : Views V) (lines : List Shown) (shown : Shown) (old mid new : V) → AreSeen gives old lines mid → gives mid shown.line shown.printed shown.wire new → AreSeen gives old (lines ++ shown ∷ []) new
seen_more gives [] shown old mid new seen one = (new, subst (λ v. gives v shown.line shown.printed shown.wire new) seen one, refl)
seen_more gives (first ∷ lines) shown old mid new seen one = (seen.0, seen.1, seen_more gives lines shown seen.0 mid new seen.2 one)

-- the bytes of lines, and of one more
pub bytes_more : (lines : List Shown) (shown : Shown) → bytes_of (lines ++ shown ∷ []) ≡ bytes_of lines ++ (shown.line ++ 10 ∷ [])
bytes_more [] shown = refl
bytes_more (first ∷ lines) shown = ap (λ b. first.line ++ 10 ∷ b) (bytes_more lines shown) ∙ sym (append_assoc first.line (10 ∷ bytes_of lines) (shown.line ++ 10 ∷ []))

-- the line in hand, as it was shown
abbrev of : List ℕ → List ℕ → List Symbol → Shown
of line printed wire = record { line = line; printed = printed; wire = wire }

-- one more line was run and shown
pub one_viewed : {V : Type 0} (gives : Views V) (known now next : Option (List ℕ)) (reader further : ScriptLines) (old mid new : V) (from at to : Progress)
    → ViewedSoFar gives known now reader old mid from at → GivesLine reader further → IsReadFrom known next further → LineViewed gives (line_in_hand further) mid new at to
    → ViewedSoFar gives known next further old new from to
one_viewed gives known now next reader further old mid new from at to so_far given_line read (printed, wire, ran, shown) =
    let line = line_in_hand further in
    let lines = so_far.lines in
    record {
      lines = lines ++ of line printed wire ∷ [];
      run = run_more lines (of line printed wire) from at to so_far.run given_line.0 ran;
      seen = seen_more gives lines (of line printed wire) old mid new so_far.seen shown;
      bytes = given_line.1 ∙ ap (λ b. b ++ (line ++ 10 ∷ [])) so_far.bytes ∙ sym (bytes_more lines (of line printed wire));
      read = read;
    }

-- the last line was run and shown
pub all_viewed : {V : Type 0} (gives : Views V) (known now next : Option (List ℕ)) (reader further : ScriptLines) (old new : V) (from to : Progress)
    → ViewedSoFar gives known now reader old new from to → given further ≡ given reader → IsGivenOut further → IsReadFrom known next further → ViewedWhole gives known old new from to
all_viewed gives known now next reader further old new from to so_far same end read = record {
  lines = so_far.lines;
  run = so_far.run;
  seen = so_far.seen;
  all = subst (λ bytes. IfSome known (λ script. bytes ≡ script ++ 10 ∷ [])) (same ∙ so_far.bytes) (all_given known next further read end).0;
}

-- a fault before the next line
pub viewed_stops : {V : Type 0} (gives : Views V) (known now : Option (List ℕ)) (reader : ScriptLines) (old new : V) (from to : Progress) → ViewedSoFar gives known now reader old new from to → ViewedPart gives known old new from
viewed_stops gives known now reader old new from to so_far =
    let first = first_given known now reader so_far.read in
    record {
      lines = so_far.lines;
      to = to;
      rest = first.0;
      run = so_far.run;
      seen = so_far.seen;
      first = subst (λ bytes. IfSome known (λ script. bytes ++ first.0 ≡ script ++ 10 ∷ [])) so_far.bytes first.1;
    }

-- a fault at the next line: of the run, or of the viewer
pub viewed_ends : {V : Type 0} (gives : Views V) (fails : Fails V) (known now next : Option (List ℕ)) (reader further : ScriptLines) (old mid new : V) (from at : Progress) (fault : ScriptFault)
    → ViewedSoFar gives known now reader old mid from at → GivesLine reader further → IsReadFrom known next further → (new ≡ mid) ⊎ LineFailed fails (line_in_hand further) mid new at fault
    → ViewedEnds gives fails known old new from fault
viewed_ends gives fails known now next reader further old mid new from at fault so_far given_line read (inl same) =
    inl (subst (λ v. ViewedPart gives known old v from) (sym same) (viewed_stops gives known now reader old mid from at so_far))
viewed_ends gives fails known now next reader further old mid new from at fault so_far given_line read (inr (printed, wire, to, ran, failed)) =
    let line = line_in_hand further in
    let lines = so_far.lines in
    let last = of line printed wire in
    let first = first_given known next further read in
    let bytes : given further ≡ bytes_of (lines ++ last ∷ []) = given_line.1 ∙ ap (λ b. b ++ (line ++ 10 ∷ [])) so_far.bytes ∙ sym (bytes_more lines last) in
    inr record {
      lines = lines;
      last = last;
      mid = mid;
      to = to;
      rest = first.0;
      run = run_more lines last from at to so_far.run given_line.0 ran;
      seen = so_far.seen;
      failed = failed;
      first = subst (λ bytes. IfSome known (λ script. bytes ++ first.0 ≡ script ++ 10 ∷ [])) bytes first.1;
    }

-- no line was run
pub none_viewed : {V : Type 0} (gives : Views V) (known : Option (List ℕ)) (old : V) (from : Progress) → ViewedPart gives known old old from
none_viewed gives known old from =
    record { lines = []; to = from; rest = unread known ++ 10 ∷ []; run = refl; seen = refl; first = script_is known known [] [] [] (none_read known [] refl) refl }

-- a line that was run
pub line_ran : (line said text : List ℕ) (wire : List Symbol) (outcome : Result (Unit {0}) (LineError Refusal)) (from to : Progress) → LineRuns from.state line said (refusal_in outcome) to.state
    → text ≡ said ++ end_text outcome → wire_on to.state.script.stage ≡ kept (wire_on from.state.script.stage ++ wire)
    → to.refused ≡ min (from.refused + refusals outcome) 18446744073709551615 → LineRan line text wire from to
line_ran line said text wire outcome from to does shows sent count = record {
  said = said;
  refused = refusal_in outcome;
  does = does;
  text = shows ∙ ap (λ t. said ++ t) (its_text outcome);
  sent = sent;
  count = count ∙ ap (λ n. min (from.refused + n) 18446744073709551615) (its_refusals outcome);
}

-- what follows where all went well
pub in_ok : {E A B : Type 0} (result : Result (Unit {0}) E) → (A → B) → OnOk result A → OnOk result B
in_ok (Ok done) follows is = follows is
in_ok (Err fault) follows is = tt
