-- The run of a watched script, line by line.
use Rattle.std.proofs.Common.{◌≡◌, ◌≢◌, ◌∙◌, ℕ, ◌+◌, Bool, true, false, cond, Ok, Err, codes, List, [], ◌∷◌, ◌++◌, length, min, arith, Option, IfSome, Result, ap, append_assoc, append-nil, inl, inr, refl, subst, sym}
use Rattle.std.specs.Fmt.{decimal}
use Rattle.std.specs.Io.KnownBytes.{Appends}
use Rattle.i3c_base.specs.Cutting.{CutList}
use Rattle.i3c_lines.specs.declared.refusals.Refusal.{Refusal}
use Rattle.i3c_text.specs.declared.line_error.LineError.{LineError}
use Rattle.i3c_script.specs.declared.stage.Stage.{Stage}
use Rattle.i3c_script.specs.Obeying.{ScriptState}
use Rattle.i3c_script.specs.Printed.{end_text}
use Rattle.i3c_script.specs.Stops.{refusals}
use Rattle.i3c_streams.specs.declared.faults.ScriptFault.{ScriptFault}
use Rattle.i3c_streams.specs.declared.script_lines.ScriptLines.{ScriptLines}
use Rattle.i3c_streams.specs.declared.watching.Watching.{Watching}
use Rattle.i3c_runner.specs.declared.watched.WatchFault.{WatchFault}
use Rattle.i3c_streams.specs.declared.script_lines.Reading.{Reading}
use Rattle.i3c_streams.specs.Lines.{GivesLine, IsGivenOut, IsReadAs, IsReadFrom, given, line_in_hand}
use Rattle.i3c_streams.specs.Outcomes.{AppendsSome}
use Rattle.i3c_streams.specs.Watching.{is_telling}
use Rattle.i3c_runner.specs.Expecting.{Standing}
use Rattle.i3c_runner.specs.Reasons.{IsExplained, cuts_on}
use Rattle.i3c_runner.specs.Scripts.{IsLineRun, LineRuns, LineRun, lines_bytes, lines_out, lines_refused, run_text}
use Rattle.i3c_runner.specs.ScriptSteps.{Progress, noted}
use Rattle.i3c_runner.specs.Watched.{AreFormed, HeardBefore, HeardIf, Hears, IsExplainedIf, IsFormed, IsLastReason, IsTold, KnowsCuts, LineFails, LineRan, LineWatched, LinesTell, WatchedEnds, WatchedPart, WatchedWhole, echo_text, echoed, numbered, numbered_by, shown, shown_out}
use Rattle.i3c_streams.proofs.BytesRead.{none_read, script_is, unread}
use Rattle.i3c_runner.proofs.CheckRuns.{nothing_out, some_out}
use Rattle.i3c_runner.proofs.Gathered.{some_after}
use Rattle.i3c_streams.proofs.LinesRead.{all_given, first_given}
use Rattle.i3c_runner.proofs.ScriptRuns.{bytes_both, its_refusals, its_text, refusal_in, refused_both}
use Rattle.i3c_streams.proofs.Written.{appends_both}

shown_more : (watching : Watching) (lines : List LineRun) (number at : ℕ) (run : LineRun) → at ≡ number + length lines → shown_out watching number (lines ++ run ∷ []) ≡ shown_out watching number lines ++ shown watching at run
shown_more watching [] number at run e = let first : number ≡ at = omega (arith, e) in append-nil (shown watching number run) ∙ ap (λ n. shown watching n run) first
shown_more watching (one ∷ lines) number at run e =
    ap (λ text. shown watching number one ++ text) (shown_more watching lines (number + 1) at run (omega (arith, e)))
    ∙ sym (append_assoc (shown watching number one) (shown_out watching (number + 1) lines) (shown watching at run))

formed_more : (watching : Watching) (lines : List LineRun) (run : LineRun) → AreFormed watching lines → IsFormed watching run.line → AreFormed watching (lines ++ run ∷ [])
formed_more watching [] run are is = (is, tt)
formed_more watching (one ∷ lines) run are is = (are.0, formed_more watching lines run are.1 is)

length_more : (lines : List LineRun) (run : LineRun) → length (lines ++ run ∷ []) ≡ length lines + 1
length_more [] run = omega arith
length_more (one ∷ lines) run = omega (arith, length_more lines run)

-- lines and one more, with what tells of them
tell_more : (watching : Watching) (number at : ℕ) (old mid new : Standing) (lines : List LineRun) (run : LineRun) (texts : List (List ℕ)) (told : List ℕ) → at ≡ number + length lines → LinesTell watching number old lines texts mid
    → IsLineRun mid run new → IsTold watching at run.line run.refused (cuts_on mid.script.stage) new.script told → LinesTell watching number old (lines ++ run ∷ []) (texts ++ told ∷ []) new
tell_more watching number at old mid new [] run [] told e same is tells =
    let first : at ≡ number = omega (arith, e) in
    (new, subst (λ st. IsLineRun st run new) same is, subst (λ st. IsTold watching number run.line run.refused (cuts_on st.script.stage) new.script told) same (subst (λ n. IsTold watching n run.line run.refused (cuts_on mid.script.stage) new.script told) first tells), refl)
tell_more watching number at old mid new [] run (text ∷ texts) told e none is tells = absurd none
tell_more watching number at old mid new (one ∷ lines) run [] told e none is tells = absurd none
tell_more watching number at old mid new (one ∷ lines) run (text ∷ texts) told e before is tells =
    (before.0, before.1, before.2, tell_more watching (number + 1) at before.0 mid new lines run texts told (omega (arith, e)) before.3 is tells)

-- texts and one more, as a witness heard them
heard_more : {T : Type 0} (hears : Hears T) (explain : Bool) (old mid new : T) (texts : List (List ℕ)) (told : List ℕ) → HeardIf hears explain old texts mid → HeardIf hears explain mid (told ∷ []) new → HeardIf hears explain old (texts ++ told ∷ []) new
heard_more hears false old mid new texts told one two = two ∙ one
heard_more hears true old mid new [] told one two = (two.0, subst (λ v. hears v told two.0) one two.1, two.2)
heard_more hears true old mid new (text ∷ texts) told one two = (one.0, one.1, heard_more hears true one.0 mid new texts told one.2 two)

-- a witness that was told nothing
heard_none : {T : Type 0} (hears : Hears T) (explain : Bool) (old : T) → HeardIf hears explain old [] old
heard_none hears false old = refl
heard_none hears true old = refl

-- a witness was told all texts before a fault
heard_all : {T : Type 0} (fault : ScriptFault) (hears : Hears T) (explain : Bool) (old : T) (texts : List (List ℕ)) (new : T) → HeardIf hears explain old texts new → HeardBefore fault hears explain old texts new
heard_all ScriptFault.Memory hears explain old texts new heard = heard
heard_all ScriptFault.Write hears explain old texts new heard = inl heard
heard_all ScriptFault.Read hears explain old texts new heard = heard
heard_all ScriptFault.TooLarge hears explain old texts new heard = heard

-- the cuts that waited are those on the stage
told_of : (watching : Watching) (number : ℕ) (line : List ℕ) (refused : Option Refusal) (waited : CutList) (stage : Stage) (after : ScriptState) (told : List ℕ) → KnowsCuts watching waited stage
    → IsTold watching number line refused waited after told → IsTold watching number line refused (cuts_on stage) after told
told_of watching number line refused waited stage after told knows tells = (λ on. subst (λ cuts. IsExplained number line refused cuts after told) (knows on) (tells.0 on), tells.1)

-- the lines that were run so far, and the number of the next one
pub record WatchedSoFar {T : Type 0} (hears : Hears T) (watching : Watching) (known now old new : Option (List ℕ)) (before after : T) (reader : ScriptLines) (from to : Progress) (at : ℕ) : Type 0 where
  pub lines : List LineRun
  pub texts : List (List ℕ)
  pub run : LinesTell watching 1 from.state lines texts to.state
  pub heard : HeardIf hears (is_telling watching) before texts after
  pub formed : AreFormed watching lines
  pub number : at ≡ 1 + length lines
  pub bytes : given reader ≡ lines_bytes lines
  pub out : Appends old new (shown_out watching 1 lines)
  pub count : min to.refused 18446744073709551615 ≡ min (from.refused + lines_refused lines) 18446744073709551615
  pub read : IsReadFrom known now reader

-- the bytes with one more line
more_bytes : (lines : List LineRun) (run : LineRun) (reader further : ScriptLines) → given reader ≡ lines_bytes lines → given further ≡ given reader ++ (run.line ++ 10 ∷ []) → given further ≡ lines_bytes (lines ++ run ∷ [])
more_bytes lines run reader further before more = more ∙ ap (λ b. b ++ (run.line ++ 10 ∷ [])) before ∙ sym (bytes_both lines (run ∷ []))

module _ {T : Type 0} (hears : Hears T) (watching : Watching) (known : Option (List ℕ)) (before : T) where
  -- no line was run yet
  pub none_watched : (old : Option (List ℕ)) (reader : ScriptLines) (from : Progress) → given reader ≡ [] → reader.bytes.items ≡ [] → reader.reading ≡ Reading.Open → WatchedSoFar hears watching known known old old before before reader from from 1
  none_watched old reader from none empty opened = record {
    lines = [];
    texts = [];
    run = refl;
    heard = heard_none hears (is_telling watching) before;
    formed = tt;
    number = omega arith;
    bytes = none;
    out = nothing_out old;
    count = omega arith;
    read = subst (λ r. IsReadAs r known known reader.bytes.items) (sym opened) (none_read known reader.bytes.items empty, omega (arith, ap length empty));
  }

  -- one more line was run
  pub one_watched : (now next old mid new : Option (List ℕ)) (told after : T) (reader further : ScriptLines) (from c1 c2 : Progress) (number : ℕ) (waited : CutList)
      → WatchedSoFar hears watching known now old mid before told reader from c1 number → GivesLine reader further → IsReadFrom known next further → KnowsCuts watching waited c1.state.script.stage
      → LineWatched hears watching number (line_in_hand further) waited mid new told after c1 c2 → WatchedSoFar hears watching known next old new before after further from c2 (number + 1)
  one_watched now next old mid new told after reader further from c1 c2 number waited so_far gives read knows done =
      let lines = so_far.lines in
      let run : LineRun = record { line = line_in_hand further; said = done.said; refused = done.refused } in
      record {
        lines = lines ++ run ∷ [];
        texts = so_far.texts ++ done.told ∷ [];
        run = tell_more watching 1 number from.state c1.state c2.state lines run so_far.texts done.told so_far.number so_far.run (record { one = gives.0; does = done.does })
            (told_of watching number run.line run.refused waited c1.state.script.stage c2.state.script done.told knows done.tells);
        heard = heard_more hears (is_telling watching) before told after so_far.texts done.told so_far.heard done.heard;
        formed = formed_more watching lines run so_far.formed done.formed;
        number = omega (arith, so_far.number, length_more lines run);
        bytes = more_bytes lines run reader further so_far.bytes gives.1;
        out = subst (Appends old new) (sym (shown_more watching lines 1 number run so_far.number)) (appends_both old mid new (shown_out watching 1 lines) (shown watching number run) so_far.out done.out);
        count = omega (arith, so_far.count, done.count, refused_both lines (run ∷ []));
        read = read;
      }

  -- the last line was run
  pub all_watched : (now next old new : Option (List ℕ)) (after : T) (reader further : ScriptLines) (from to : Progress) (number : ℕ) → WatchedSoFar hears watching known now old new before after reader from to number
      → given further ≡ given reader → IsGivenOut further → IsReadFrom known next further → WatchedWhole hears watching known old new before after from to
  all_watched now next old new after reader further from to number so_far same end read = record {
    lines = so_far.lines;
    texts = so_far.texts;
    run = so_far.run;
    heard = so_far.heard;
    formed = so_far.formed;
    all = subst (λ bytes. IfSome known (λ script. bytes ≡ script ++ 10 ∷ [])) (same ∙ so_far.bytes) (all_given known next further read end).0;
    out = so_far.out;
    count = so_far.count;
  }

  -- a fault before the next line
  pub watched_stops : (now old new : Option (List ℕ)) (after : T) (reader : ScriptLines) (from to : Progress) (number : ℕ) (fault : ScriptFault) → WatchedSoFar hears watching known now old new before after reader from to number
      → WatchedPart hears watching known old new before after from fault
  watched_stops now old new after reader from to number fault so_far =
      let first = first_given known now reader so_far.read in
      record {
        lines = so_far.lines;
        texts = so_far.texts;
        to = to.state;
        rest = first.0;
        run = so_far.run;
        heard = heard_all fault hears (is_telling watching) before so_far.texts after so_far.heard;
        formed = so_far.formed;
        first = subst (λ bytes. IfSome known (λ script. bytes ++ first.0 ≡ script ++ 10 ∷ [])) so_far.bytes first.1;
        out = some_out old new (shown_out watching 1 so_far.lines) so_far.out;
      }

  -- a line at which the run ends
  pub watched_ends : (now next old mid new : Option (List ℕ)) (told after : T) (reader further : ScriptLines) (from c1 : Progress) (number : ℕ) (waited : CutList) (fault : WatchFault)
      → WatchedSoFar hears watching known now old mid before told reader from c1 number → GivesLine reader further → IsReadFrom known next further → KnowsCuts watching waited c1.state.script.stage → after ≡ told
      → LineFails watching number (line_in_hand further) waited mid new c1 fault → WatchedEnds hears watching known old new before after from fault
  watched_ends now next old mid new told after reader further from c1 number waited (WatchFault.Script fault) so_far gives read knows untold (inl same) =
      subst (λ out. WatchedPart hears watching known old out before after from fault) (sym same) (subst (λ v. WatchedPart hears watching known old mid before v from fault) (sym untold) (watched_stops now old mid told reader from c1 number fault so_far))
  watched_ends now next old mid new told after reader further from c1 number waited (WatchFault.Script fault) so_far gives read knows untold (inr (failed, cut)) =
      let lines = so_far.lines in
      let run : LineRun = record { line = line_in_hand further; said = cut.said; refused = cut.refused } in
      let first = first_given known next further read in
      let part : WatchedPart hears watching known old new before after from ScriptFault.Write = record {
        lines = lines ++ run ∷ [];
        texts = so_far.texts ++ cut.told ∷ [];
        to = cut.to;
        rest = first.0;
        run = tell_more watching 1 number from.state c1.state cut.to lines run so_far.texts cut.told so_far.number so_far.run (record { one = gives.0; does = cut.does })
            (told_of watching number run.line run.refused waited c1.state.script.stage cut.to.script cut.told knows cut.tells);
        heard = inr (so_far.texts, cut.told, refl, subst (λ v. HeardIf hears (is_telling watching) before so_far.texts v) (sym untold) so_far.heard);
        formed = formed_more watching lines run so_far.formed cut.formed;
        first = subst (λ bytes. IfSome known (λ script. bytes ++ first.0 ≡ script ++ 10 ∷ [])) (more_bytes lines run reader further so_far.bytes gives.1) first.1;
        out = subst (AppendsSome old new) (sym (shown_more watching lines 1 number run so_far.number)) (some_after old mid new (shown_out watching 1 lines) (shown watching number run) so_far.out cut.out);
      } in
      subst (WatchedPart hears watching known old new before after from) (sym failed) part
  watched_ends now next old mid new told after reader further from c1 number waited (WatchFault.NoForm reason) so_far gives read knows untold (none, strict, why, same) =
      let lines = so_far.lines in
      let line = line_in_hand further in
      let first = first_given known next further read in
      let split : given further ++ first.0 ≡ lines_bytes lines ++ (line ++ 10 ∷ first.0) =
      ap (λ b. b ++ first.0) (gives.1 ∙ ap (λ b. b ++ (line ++ 10 ∷ [])) so_far.bytes) ∙ append_assoc (lines_bytes lines) (line ++ 10 ∷ []) first.0 ∙ ap (λ b. lines_bytes lines ++ b) (append_assoc line (10 ∷ []) first.0) in
      record {
        lines = lines;
        texts = so_far.texts;
        to = c1.state;
        line = line;
        rest = first.0;
        strict = strict;
        none = none;
        why = subst (λ n. IsLastReason n line reason) so_far.number why;
        run = so_far.run;
        heard = subst (λ v. HeardIf hears (is_telling watching) before so_far.texts v) (sym untold) so_far.heard;
        formed = so_far.formed;
        first = subst (λ bytes. IfSome known (λ script. bytes ≡ script ++ 10 ∷ [])) split first.1;
        out = subst (λ out. Appends old out (shown_out watching 1 lines)) (sym same) so_far.out;
      }

  -- no line was run
  pub none_ran : (old : Option (List ℕ)) (from : Progress) (fault : ScriptFault) → WatchedPart hears watching known old old before before from fault
  none_ran old from fault = record {
    lines = [];
    texts = [];
    to = from.state;
    rest = unread known ++ 10 ∷ [];
    run = refl;
    heard = heard_all fault hears (is_telling watching) before [] before (heard_none hears (is_telling watching) before);
    formed = tt;
    first = script_is known known [] [] [] (none_read known [] refl) refl;
    out = some_out old old [] (nothing_out old);
  }

-- a refusal that is noted changes nothing on the bus
pub stays_there : (now : Standing) (outcome : Result (Unit {0}) (LineError Refusal)) → (noted now outcome).script ≡ now.script
stays_there now (Ok done) = refl
stays_there now (Err (LineError.Refused why)) = refl
stays_there now (Err LineError.Memory) = refl

-- what is told of a line that isn't short of memory
told_in : (watching : Watching) (number : ℕ) (line : List ℕ) (outcome : Result (Unit {0}) (LineError Refusal)) (waited : CutList) (after : ScriptState) (told : List ℕ) → outcome ≢ Err LineError.Memory
    → IsExplainedIf watching number line outcome waited after told → IsTold watching number line (refusal_in outcome) waited after told
unfolding refusal_in
told_in watching number line (Ok done) waited after told alive tells = tells
told_in watching number line (Err (LineError.Refused why)) waited after told alive tells = tells
told_in watching number line (Err LineError.Memory) waited after told alive tells = absurd (alive refl)

-- a line that was run, as it is shown and told
pub line_ran : (watching : Watching) (number : ℕ) (line said text told : List ℕ) (outcome : Result (Unit {0}) (LineError Refusal)) (waited : CutList) (from to : Progress) → LineRuns from.state line said (refusal_in outcome) to.state → outcome ≢ Err LineError.Memory
    → IsExplainedIf watching number line outcome waited to.state.script told → text ≡ numbered_by watching number (echoed watching line ++ (said ++ end_text outcome)) → to.refused ≡ min (from.refused + refusals outcome) 18446744073709551615
    → LineRan watching number line waited text told from to
line_ran watching number line said text told outcome waited from to does alive tells shows count = record {
  said = said;
  refused = refusal_in outcome;
  does = does;
  tells = told_in watching number line outcome waited to.state.script told alive tells;
  text = shows ∙ ap (λ t. numbered_by watching number (echoed watching line ++ (said ++ t))) (its_text outcome);
  count = count ∙ ap (λ n. min (from.refused + n) 18446744073709551615) (its_refusals outcome);
}

shown_plain : (watching : Watching) (number : ℕ) (run : LineRun) → watching.numbers ≡ false → watching.echo ≡ false → shown watching number run ≡ run_text run
shown_plain watching number run numbers echo =
    let text = run_text run in
    let all = echoed watching run.line ++ text in
    ap (λ b. cond b (numbered (decimal number ++ codes ": ") true all) all) numbers ∙ ap (λ b. cond b (echo_text run.line) [] ++ text) echo

-- what goes out is what the lines put out
pub prints_the_same : (watching : Watching) (number : ℕ) (lines : List LineRun) → watching.numbers ≡ false → watching.echo ≡ false → shown_out watching number lines ≡ lines_out lines
prints_the_same watching number [] numbers echo = refl
prints_the_same watching number (run ∷ lines) numbers echo = λ i. shown_plain watching number run numbers echo i ++ prints_the_same watching (number + 1) lines numbers echo i
